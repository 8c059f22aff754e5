-- The two sides of a trivial syzygy, compared without being made.
--
-- Two entries with signatures σ and σ' and leading words v and v' give the sides σ m v' and v m σ'
-- for each word m. A test compares them for many words m. It compares degrees and generators first,
-- which do not depend on m: the word m weighs the same in both sides. Only where these are equal
-- are the words compared, piece by piece in place.
--
-- The own entry is the one whose multiple is at hand. The other leading word stands behind it or
-- before it, so most definitions come twice.
use Rattle.nc_algebra.specs.Monomials.{compare_sigs, sig_times}
use Rattle.nc_algebra.specs.Words.{Word, compare_words, word_weight}
use Rattle.nc_snapshot.specs.declared.lead.Lead.{Lead}
use Rattle.std.specs.Ordering.{nat_cmp, ordering_then}
use Rattle.std.specs.Prelude.{[], ◌++◌, ◌+◌, ◌≡◌}
use Rattle.std.specs.declared.cmp.Ordering.{Ordering}
use Rattle.std.specs.declared.cmp.Ordering.TheVariants.{Less}

-- degrees, then generators of the two sides: that of the other signature beside that of the own one
abbrev pub compare_heads : Lead → Lead → Ordering
compare_heads own other =
    ordering_then (nat_cmp (word_weight own.word.now + other.sig.now.degree)
    (own.sig.now.degree + word_weight other.word.now))
    (nat_cmp other.sig.now.generator own.sig.now.generator)

-- then the words of the two sides, where m stands between the own signature and the other leading
-- word behind it
abbrev pub words_behind : Lead → Lead → Word → Ordering
words_behind own other m =
    ordering_then (compare_words (own.word.now ++ (m ++ other.sig.now.left)) own.sig.now.left)
    (compare_words other.sig.now.right (own.sig.now.right ++ (m ++ other.word.now)))

-- and where it stands before the own signature
abbrev pub words_before : Lead → Lead → Word → Ordering
words_before own other m =
    ordering_then (compare_words other.sig.now.left (other.word.now ++ (m ++ own.sig.now.left)))
    (compare_words (other.sig.now.right ++ (m ++ own.word.now)) own.sig.now.right)

-- own's leading word, m and the other signature are less than own's signature, m and the other
-- leading word
abbrev pub IsLesserBehind : Lead → Lead → Word → Type 0
IsLesserBehind own other m =
    compare_sigs (sig_times (own.word.now ++ m) other.sig.now [])
    (sig_times [] own.sig.now (m ++ other.word.now)) ≡ Less

-- the other signature, m and own's leading word are less than the other leading word, m and own's
-- signature
abbrev pub IsLesserBefore : Lead → Lead → Word → Type 0
IsLesserBefore own other m =
    compare_sigs (sig_times [] other.sig.now (m ++ own.word.now))
    (sig_times (other.word.now ++ m) own.sig.now []) ≡ Less

-- the other leading word stands in v, and with what stands before it there own's side is the
-- greater one
pub record IsBehind (own other : Lead) (v : Word) : Type 0 where
  pub m : Word
  pub rest : Word
  pub spells : m ++ (other.word.now ++ rest) ≡ v
  pub lesser : IsLesserBehind own other m

-- the other leading word stands in u, and with what stands behind it there own's side is the
-- greater one
pub record IsBefore (own other : Lead) (u : Word) : Type 0 where
  pub rest : Word
  pub m : Word
  pub spells : rest ++ (other.word.now ++ m) ≡ u
  pub lesser : IsLesserBefore own other m
