-- The figures of a flow stand in its row. Assumes nothing.
use Rattle.std.proofs.Common.{◌≡◌, ℕ, zero, suc, ◌-◌, ◌<◌, ◌≤◌, List, [], ◌∷◌, length, get_or, Some, None, sym, refl, ap, ◌∙◌, arith}
use Rattle.analysis.specs.declared.row.Row.{Row}
use Rattle.analysis.specs.Answers.{figures_of, figures_at}

at_place : (rows : List Row) (k : ℕ) (d : Row) → k < length rows → figures_at rows (suc k) ≡ Some (figures_of (get_or rows k d))
unfolding figures_at
at_place [] k d less = absurd (omega arith)
at_place (row ∷ rows) zero d less = refl
at_place (row ∷ rows) (suc k) d less = at_place rows k d (omega arith)

past_end : (rows : List Row) (k : ℕ) → length rows ≤ k → figures_at rows (suc k) ≡ None
unfolding figures_at
past_end [] k le = refl
past_end (row ∷ rows) zero le = absurd (omega arith)
past_end (row ∷ rows) (suc k) le = past_end rows k (omega arith)

pub figures_there : (rows : List Row) (i : ℕ) (row : Row) → 1 ≤ i → i ≤ length rows → row ≡ get_or rows (i - 1) row → Some (figures_of row) ≡ figures_at rows i
figures_there rows i row low high is =
    let number : suc (i - 1) ≡ i = omega arith in
    ap (λ (r : Row). Some (figures_of r)) is ∙ sym (at_place rows (i - 1) row (omega arith)) ∙ ap (figures_at rows) number

pub figures_none : (rows : List Row) → figures_at rows 0 ≡ None
unfolding figures_at
figures_none rows = refl

pub figures_past : (rows : List Row) (i : ℕ) → length rows < i → figures_at rows i ≡ None
figures_past rows i past =
    let number : i ≡ suc (i - 1) = omega arith in
    ap (figures_at rows) number ∙ past_end rows (i - 1) (omega arith)
