-- The limits of the program. Each is a number here and one constant in code.
--
-- Texts have tighter limits than values, so that what is made of a text stays within those of
-- values: a bound has a degree of at most `max_bound`, and each monomial that a run meets one of at
-- most `max_degree`.
use Rattle.std.specs.Prelude.{ℕ}

-- the letters of a word
abbrev pub max_letters : ℕ
max_letters = 200000

-- the weight of a word; a letter weighs at least 1, so such a word has no more than `max_letters`
abbrev pub max_weight : ℕ
max_weight = 200000

-- the degree of a module monomial in a sum
abbrev pub max_degree : ℕ
max_degree = 100000

-- the degree of a problem's bound
abbrev pub max_bound : ℕ
max_bound = 80000

-- the signatures that a run may handle, and so its entries and its syzygies
abbrev pub max_steps : ℕ
max_steps = 1000000000

-- the reach of a line of a certificate
abbrev pub max_reach : ℕ
max_reach = 100000

-- the lines of a certificate
abbrev pub max_lines : ℕ
max_lines = 4000000000

-- the leading words of an index
abbrev pub max_leads : ℕ
max_leads = 4000000000

-- the bytes of a text
abbrev pub max_bytes : ℕ
max_bytes = 16777216

-- the work that the check of a certificate may ask for
abbrev pub max_charge : ℕ
max_charge = 100000000
