use Rattle.std.specs.Prelude.{ℕ, zero, suc, ◌+◌, ◌*◌, ◌/◌, ◌%◌, ◌^◌}

-- Numbers drawn one after another. The generator has a state of 64 bits, at first a number that is
-- given.

-- one step of the generator
abbrev pub next : ℕ → ℕ
next x = (x * 6364136223846793005 + 1442695040888963407) % 2 ^ 64

-- the state so many steps behind a state
unfoldable pub after : ℕ → ℕ → ℕ
after zero x = x
after (suc n) x = after n (next x)

-- what a state gives below k: its upper 31 bits mod k
abbrev pub given : (k : ℕ) → ℕ → ℕ
given k x = (x / 2 ^ 33) % k

-- the first draw below k from a state on, the second, and so on
abbrev pub draw : (n k : ℕ) → ℕ → ℕ
draw n k x = given k (after n x)
