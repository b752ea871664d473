use Rattle.catalogue_loading.proofs.definitions.read_parts.Goals as goal

pub returns-in-Ok-read_tables-clause-preserved : goal.returns-in-Ok-read_tables-clause-preserved
returns-in-Ok-read_tables-clause-preserved g c =
    g.M.Map.preserved_joined c.args.map.now c.load_items-2.new.map c.read_tables.new.map
    (g.M.Map.preserved_joined c.args.map.now c.load_items.new.map c.load_items-2.new.map c.in-Ok.ensures.preserved c.in-Ok-load_items.ensures.preserved)
    c.in-Ok-read_tables.ensures.preserved

pub returns-in-Err-read_tables-clause-preserved : goal.returns-in-Err-read_tables-clause-preserved
returns-in-Err-read_tables-clause-preserved g c =
    g.M.Map.preserved_joined c.args.map.now c.load_items-2.new.map c.read_tables.new.map
    (g.M.Map.preserved_joined c.args.map.now c.load_items.new.map c.load_items-2.new.map c.in-Ok.ensures.preserved c.in-Ok-load_items.ensures.preserved)
    c.in-Err-read_tables.ensures.preserved
