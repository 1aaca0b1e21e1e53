-- The replay window by the numbers that were recorded since it was empty, the newest first.
use Rattle.std.specs.Prelude.{◌≡◌, ℕ, ◌+◌, ◌-◌, ◌<◌, ◌≤◌, max, Bool, false, not, ◌&&◌, ◌||◌, List, [], ◌∷◌, ◌==◌, nat_le, nat_lt}
use Rattle.esp.specs.Window.{bit_at}
use Rattle.esp.specs.declared.window.ReplayWindow.{ReplayWindow}

-- the highest number recorded, 0 where there is none
abbrev pub top : List ℕ → ℕ
top [] = 0
top (n ∷ ns) = max n (top ns)

-- whether k is recorded
abbrev pub recorded : ℕ → List ℕ → Bool
recorded k [] = false
recorded k (n ∷ ns) = k == n || recorded k ns

-- q may pass after the numbers ns: q is at least 1, q + 64 exceeds the highest recorded number, and q is
-- not recorded
abbrev pub may_pass : List ℕ → ℕ → Bool
may_pass ns q = nat_le 1 q && (nat_lt (top ns) (q + 64) && not (recorded q ns))

-- the stored window stands for the numbers ns
pub record Stands (w : ReplayWindow) (ns : List ℕ) : Type 0 where
  pub highest : w.highest ≡ top ns
  -- each number of the 64 up to the highest is marked just where it is recorded
  pub marks : (k : ℕ) → 0 < k → k ≤ w.highest → w.highest < k + 64
      → (bit_at w.bitmap (w.highest - k) == 1) ≡ recorded k ns
