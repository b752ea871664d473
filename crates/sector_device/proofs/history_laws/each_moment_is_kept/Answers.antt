use Rattle.std.proofs.Common.{take, arith}
use Rattle.sector_device.specs.HistoryDevice.{calls_of}
use Rattle.sector_device.specs.HistoryLaws.{content_left}
use Rattle.sector_device.proofs.history_laws.each_moment_is_kept.Goals as goal

pub returns-clause-images : goal.returns-clause-images
returns-clause-images c first moment last image after_first before_last within may = (moment, after_first, before_last, omega arith, may)

pub returns-clause-content : goal.returns-clause-content
returns-clause-content c first moment last after_first before_last within =
    (moment, after_first, before_last, omega arith, λ s inside. content_left (take moment (calls_of c.args.device.now)) s)

pub returns-clause-only : goal.returns-clause-only
returns-clause-only c first last image stop = (stop.0, stop.1, stop.2, stop.4)
