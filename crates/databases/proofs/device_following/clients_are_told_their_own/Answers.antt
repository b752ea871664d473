use Rattle.databases.proofs.Telling.{clients_own}
use Rattle.databases.proofs.device_following.clients_are_told_their_own.Goals as goal

pub returns : goal.returns
returns g c = λ begin left opened is before end after serves it answered client place told is_told.
    clients_own begin left opened is before end after serves it answered client place told is_told
