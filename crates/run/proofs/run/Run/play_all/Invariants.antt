use Rattle.std.proofs.Common.{◌≡◌, vec_items, vec_capacity}
use Rattle.run.specs.Seen.{state_of}
use Rattle.run.proofs.Plays.{SoFar}
use Rattle.run.proofs.run.Run.play_all.Given as goal

-- the calls so far were made, and the room for the others is there
abbrev pub invariant-loop-call : goal.invariant-loop-call
invariant-loop-call g l =
    let seen = state_of g.M.Medium.levels in
    SoFar g.M.Medium.most (seen l.initial.self) l.initial.ledger l.calls l.call-index (vec_items l.events) (seen l.self) l.ledger
    × (vec_capacity l.events ≡ vec_capacity l.initial.events)
