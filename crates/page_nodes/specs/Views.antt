-- Pages with offsets of their cells.
use Rattle.std.specs.Prelude.{ℕ, List}
use Rattle.page_nodes.specs.declared.offsets.PageView.{PageView}
use Rattle.page_nodes.specs.declared.offsets.IndexedPage.{IndexedPage}

-- the bytes of a page that is lent
abbrev pub bytes_of : PageView → List ℕ
bytes_of page = page.bytes.now

-- the bytes of a page that is kept
abbrev pub kept_bytes : IndexedPage → List ℕ
kept_bytes page = page.bytes
