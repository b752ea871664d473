use Rattle.systems.proofs.Renaming.{renamed_beside, renamed_from, renamed_to}
use Rattle.systems.proofs.entries.rename_open.Goals as goal

pub returns-clause-to : goal.returns-clause-to
returns-clause-to g c = renamed_to c.args.entries.now.items c.exchange.new.entries.items c.exchange-2.new.entries.items c.args.from.now c.args.to.now c.exchange.result c.exchange-2.result c.args.content c.requires.open c.requires.free c.exchange.ensures.old c.exchange.ensures.new c.exchange.ensures.others c.exchange-2.ensures.old c.exchange-2.ensures.new c.exchange-2.ensures.others

pub returns-clause-from : goal.returns-clause-from
returns-clause-from g c = renamed_from c.args.entries.now.items c.exchange.new.entries.items c.exchange-2.new.entries.items c.args.from.now c.args.to.now c.exchange.result c.exchange-2.result c.args.content c.requires.open c.requires.free c.exchange.ensures.old c.exchange.ensures.new c.exchange.ensures.others c.exchange-2.ensures.old c.exchange-2.ensures.new c.exchange-2.ensures.others

pub returns-clause-others : goal.returns-clause-others
returns-clause-others g c = renamed_beside c.args.entries.now.items c.exchange.new.entries.items c.exchange-2.new.entries.items c.args.from.now c.args.to.now c.exchange.result c.exchange-2.result c.args.content c.requires.open c.requires.free c.exchange.ensures.old c.exchange.ensures.new c.exchange.ensures.others c.exchange-2.ensures.old c.exchange-2.ensures.new c.exchange-2.ensures.others
