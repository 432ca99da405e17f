-- Figures, as they are printed. Assumes nothing.
use Rattle.std.specs.Prelude.{ℕ, List, [], ◌∷◌, ◌++◌, Some, None, Option}
use Rattle.std.specs.Fmt.{decimal}
use Rattle.analysis.specs.declared.figures.Figures.{Figures}

-- a dash where there is no bound
abbrev pub bound_text : Option ℕ → List ℕ
bound_text None = 45 ∷ []
bound_text (Some x) = decimal x

-- hops, parts, alone, bound and rounds, with a space between two
abbrev pub figures_text : Figures → List ℕ
figures_text f = decimal f.hops ++ (32 ∷ decimal f.parts) ++ (32 ∷ decimal f.alone) ++ (32 ∷ bound_text f.bound) ++ (32 ∷ decimal f.rounds)
