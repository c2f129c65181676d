use Rattle.std.proofs.Common.{◌≡◌, ◌≤◌, length, take}
use Rattle.desk.specs.Log.{step_limit}
use Rattle.desk_log.specs.Reply.{Kept}
use Rattle.desk_log.proofs.listen.Given as goal

-- steps and bytes are within their rooms, and the log is one that the desk takes
abbrev pub invariant-loop-byte : goal.invariant-loop-byte
invariant-loop-byte g l = (length l.log ≡ step_limit) × (l.steps ≤ step_limit) × Kept l.cartons (take l.steps l.log) × (length l.line ≡ 5) × (l.n ≤ 5)
