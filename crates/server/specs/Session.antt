-- A session of the server as a session of the machine.
use Rattle.std.specs.Prelude.{ℕ, List, Option, Some, None}
use Rattle.abstract_database.specs.Lists.{TheName}
use Rattle.abstract_database.specs.Machine.{Block as MachineBlock, Outside, Inside, Failed, Session, session_of, with_session, in_block, as_role}
use Rattle.server.specs.declared.session.Block.{Block}
use Rattle.server.specs.declared.session.Block.TheVariants as block
use Rattle.server.specs.declared.session.BlockState.{BlockState}
use Rattle.server.specs.declared.session.BlockState.TheVariants as state
use Rattle.server.specs.declared.session.BlockChange.{BlockChange}
use Rattle.server.specs.declared.session.BlockChange.TheVariants.{Fail, Leave, RollBack}

abbrev pub block_of : Block → MachineBlock
block_of block.Outside = Outside
block_of (block.Inside role) = Inside role
block_of (block.Failed role) = Failed role

-- a block without the role that was set at its BEGIN
abbrev pub block_state : MachineBlock → BlockState
block_state Outside = state.Outside
block_state (Inside role) = state.Inside
block_state (Failed role) = state.Failed

-- a session in a block of which this was the set role at its BEGIN, after a change of the block
abbrev pub changed_with : BlockChange → Session → TheName → Session
changed_with Fail s role = in_block (Failed role) s
changed_with Leave s role = in_block Outside s
changed_with RollBack s role = in_block Outside (as_role role s)

abbrev pub changed_in : BlockChange → Session → MachineBlock → Session
changed_in c s Outside = s
changed_in c s (Inside role) = changed_with c s role
changed_in c s (Failed role) = changed_with c s role

-- a session after a change of its block: in none it stays
abbrev pub after_block_change : BlockChange → Session → Session
after_block_change c s = changed_in c s s.block

abbrev pub with_found_changed : BlockChange → ℕ → List (ℕ × Session) → Option Session → List (ℕ × Session)
with_found_changed c number sessions None = sessions
with_found_changed c number sessions (Some s) = with_session sessions number (after_block_change c s)

-- the sessions after a change of the block of the one of this number, if it is open
abbrev pub with_block_changed : BlockChange → ℕ → List (ℕ × Session) → List (ℕ × Session)
with_block_changed c number sessions = with_found_changed c number sessions (session_of number sessions)
