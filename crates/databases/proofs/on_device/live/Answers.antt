use Rattle.std.proofs.Common.{◌≡◌, Some, IfErr, sym, subst}
use Rattle.store.specs.Store.{stored}
use Rattle.journal_store.specs.DeviceReads.{faithful_under}
use Rattle.journal_store.specs.DeviceStores.{device_of, store_state}
use Rattle.cow_pages.specs.Image.{first_fault}
use Rattle.databases.specs.Lives.{all_of_client}
use Rattle.databases.specs.OnDevice.{life_result_of, IsRefusedOn}
use Rattle.databases.proofs.Opening.{not_opened_on, lived_on, refused_on, refused_over, content_after, unanswered_as}
use Rattle.databases.proofs.NewDatabaseMade.{no_fault_is_none, refused_as_none}
use Rattle.databases.proofs.on_device.live.Goals as goal

pub returns-in-Ok-clause-lives : goal.returns-in-Ok-clause-lives
returns-in-Ok-clause-lives g c = λ faithful last found.
    let device = c.args.device in
    let store = c.in-Ok.store in
    let opened = c.in-Ok.ensures in
    let holds = opened.holds faithful in
    let here = found (Some (stored (store_state store))) ((g.D.Device.state device).content, (λ s lt. g.met.D.Device.content_left device s faithful lt), holds.contents) in
    let left = c.live_over-store.result.0 in
    let lives = c.live_over-store.ensures.lives holds.sound opened.has_not_failed last here in
    let sound = c.live_over-store.ensures.history.sound holds.sound in
    lived_on device store left g.X.EventHandler.Reads last (all_of_client 0 c.args.events.now) c.args.answers.now.items c.live_over-store.new.answers.items g.row.X.Denot c.live_over-store.result.1
    c.life_result.result c.into_device.result c.life_result.ensures c.into_device.ensures opened faithful sound
    (λ s lt. g.met.D.Device.content_left (device_of left) s (faithful_under left sound) lt) found lives

pub returns-in-Err-clause-lives : goal.returns-in-Err-clause-lives
returns-in-Err-clause-lives g c = λ faithful last found.
    refused_on g.D.Device g.row.X.Denot g.X.EventHandler.Reads last (all_of_client 0 c.args.events.now) c.args.answers.now.items c.args.device c.in-Err.device c.in-Err.fault
    (λ s lt. g.met.D.Device.content_left c.args.device s faithful lt) found
    (c.in-Err.ensures.content faithful) c.in-Err.ensures.history.sectors (c.in-Err.ensures.named faithful)

pub returns-in-Ok-clause-refused : goal.returns-in-Ok-clause-refused
returns-in-Ok-clause-refused g c = λ faithful.
    let d = g.D.Device.state c.args.device in
    let opened = c.in-Ok.ensures in
    let store = c.in-Ok.store in
    let left = c.live_over-store.result.0 in
    let lived = c.live_over-store.result.1 in
    let content = content_after g.met.D.Device.only_now d store left lived opened faithful (c.live_over-store.ensures.preserved opened.has_not_failed) in
    let all = refused_over d store left lived opened faithful c.live_over-store.ensures.history c.live_over-store.ensures.refused content in
    subst (λ (result : _). IfErr result (λ fault. IsRefusedOn fault d (g.D.Device.state c.into_device.result))) (sym c.life_result.ensures)
    (subst (λ (device : _). IfErr (life_result_of c.live_over-store.result.1) (λ fault. IsRefusedOn fault d (g.D.Device.state device))) (sym c.into_device.ensures) all)

pub returns-in-Err-clause-refused : goal.returns-in-Err-clause-refused
returns-in-Err-clause-refused g c = λ faithful.
    let d = g.D.Device.state c.args.device in
    let e = g.D.Device.state c.in-Err.device in
    not_opened_on d e c.in-Err.fault c.in-Err.ensures.cause (c.in-Err.ensures.content faithful) (c.in-Err.ensures.named faithful)

pub returns-in-Ok-clause-none : goal.returns-in-Ok-clause-none
returns-in-Ok-clause-none g c = λ faithful none.
    let d = g.D.Device.state c.args.device in
    absurd (no_fault_is_none (first_fault d.sectors d.content) (c.in-Ok.ensures.holds faithful).no_fault none)

pub returns-in-Err-clause-none : goal.returns-in-Err-clause-none
returns-in-Err-clause-none g c = λ faithful none.
    let d = g.D.Device.state c.args.device in
    let e = g.D.Device.state c.in-Err.device in
    refused_as_none c.in-Err.fault d e none (c.in-Err.ensures.named faithful) c.in-Err.ensures.cause (c.in-Err.ensures.content faithful)

pub returns-in-Ok-clause-unanswered : goal.returns-in-Ok-clause-unanswered
returns-in-Ok-clause-unanswered g c =
    subst (λ (result : _). IfErr result (λ fault. c.live_over-store.new.answers.items ≡ c.args.answers.now.items)) (sym c.life_result.ensures)
    (unanswered_as _ c.live_over-store.result.1 c.live_over-store.ensures.unanswered)
