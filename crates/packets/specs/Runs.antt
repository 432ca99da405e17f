-- A run of a table, slot by slot: what is released, what waits, and who is granted. Assumes nothing.
use Rattle.std.specs.Prelude.{◌≡◌, ℕ, zero, suc, ◌+◌, ◌-◌, ◌*◌, ◌<◌, ◌≤◌, Bool, not, ◌&&◌, Some, None, Option, nat_lt}
use Rattle.timing.specs.Counts.{sum_to, some_to, one}
use Rattle.timing.specs.Model.{Table, Flow}

-- the parts that wait: all of a new packet's, or those that waited before
unfoldable pub waiting : Option ℕ → ℕ → ℕ → ℕ
waiting None k r = r
waiting (Some t) k r = k

-- the parts of flow i that wait as slot n begins, before a release into it
unfoldable pub before : (ℕ → ℕ) → (ℕ → ℕ → Option ℕ) → (ℕ → ℕ → Bool) → ℕ → ℕ → ℕ
before w rel won zero i = 0
before w rel won (suc n) i = waiting (rel n i) (w i) (before w rel won n i) - one (won n i)

-- those that wait as slot n is arbitrated
unfoldable pub left : (ℕ → ℕ) → (ℕ → ℕ → Option ℕ) → (ℕ → ℕ → Bool) → ℕ → ℕ → ℕ
left w rel won n i = waiting (rel n i) (w i) (before w rel won n i)

-- the grants of flow i in the m slots from slot f on
unfoldable pub grants : (ℕ → ℕ → Bool) → ℕ → ℕ → ℕ → ℕ
grants won i f m = sum_to m (λ k. one (won (f + k) i))

-- A run: what was released into each slot, and who was granted there.
-- It has no end; where the calls stop, nothing more is released.
pub record Run (b : Table) : Type 0 where
  -- by slot and flow: the time of the release
  pub rel : ℕ → ℕ → Option ℕ
  -- by slot and flow
  pub won : ℕ → ℕ → Bool
  -- a release is of a flow
  pub known : (n i t : ℕ) → rel n i ≡ Some t → Flow b i
  -- neither late nor ahead: (n - 1) * S + e ≤ t < n * S + e
  pub on_time : (n i t : ℕ) → rel n i ≡ Some t → (n * b.S + b.e i ≤ t + b.S) × (t < n * b.S + b.e i)
  -- two releases of a flow are T apart
  pub apart : (m n i s t : ℕ) → m < n → rel m i ≡ Some s → rel n i ≡ Some t → s + b.T i ≤ t
  -- a flow releases only when nothing of it waits
  pub free : (n i t : ℕ) → rel n i ≡ Some t → before b.w rel won n i ≡ 0
  -- a flow is granted exactly when something of it waits and no flow of H i was granted
  pub arbitrated : (n i : ℕ) → won n i ≡ (nat_lt 0 (left b.w rel won n i) && not (some_to i (λ h. b.H h i && won n h)))
