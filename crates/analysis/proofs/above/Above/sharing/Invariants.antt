use Rattle.std.proofs.Common.{◌≡◌, map, length, take}
use Rattle.analysis.specs.Marks.{shares_with}
use Rattle.analysis.proofs.above.Above.sharing.Given as goal

abbrev pub invariant-loop-h : goal.invariant-loop-h
invariant-loop-h l = (length l.flags ≡ 128) × (take l.h l.flags ≡ map (shares_with l.path) (take l.h l.rows))
