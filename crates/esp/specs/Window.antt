-- The replay window as it is stored: the highest number recorded, 0 where there is none, and a bitmap of
-- the 64 numbers up to it. Bit j stands for the number highest - j.
use Rattle.std.specs.Prelude.{ℕ, ◌-◌, ◌*◌, ◌/◌, ◌%◌, ◌^◌, Bool, true, cond, ◌&&◌, ◌==◌, bit_or, nat_lt}
use Rattle.esp.specs.declared.window.ReplayWindow.{ReplayWindow}

-- bit j of a bitmap
abbrev pub bit_at : ℕ → ℕ → ℕ
bit_at bitmap j = bitmap / 2 ^ j % 2

-- the window that has recorded nothing
abbrev pub empty : ReplayWindow
empty = record { highest = 0; bitmap = 0 }

-- whether the number q passes: not 0; above the highest, or within the 64 and not marked
unfoldable pub passing : ReplayWindow → ℕ → Bool
passing w q =
    nat_lt 0 q
    && cond (nat_lt w.highest q) true (nat_lt (w.highest - q) 64 && bit_at w.bitmap (w.highest - q) == 0)

-- the window after the number q is recorded. Above the highest the marks move up, and those that leave the
-- 64 are lost; within the 64 a mark is set; below them nothing changes.
--
--     highest = 9:   bit 0 (9)  bit 1 (8)  ..  bit 63
--     record 12:     bit 0 (12) bit 1 (11) bit 2 (10) bit 3 (9) bit 4 (8) ..
unfoldable pub noted : ReplayWindow → ℕ → ReplayWindow
noted w q =
    cond (nat_lt w.highest q)
    (record {
      highest = q;
      bitmap = cond (nat_lt (q - w.highest) 64) (bit_or ((w.bitmap * 2 ^ (q - w.highest)) % 2 ^ 64) 1) 1;
    })
    (cond (nat_lt (w.highest - q) 64)
    (record { highest = w.highest; bitmap = bit_or w.bitmap ((1 * 2 ^ (w.highest - q)) % 2 ^ 64) })
    w)
