-- A sum over words is a polynomial.
-- Its terms descend, so they are a normal form; after a multiple was subtracted they are that of
-- the difference (`heap_subtracted`).
use Rattle.nc_algebra.proofs.Lists.{same-trans}
use Rattle.nc_algebra.proofs.NormalForms.{normal_form_only}
use Rattle.nc_algebra.proofs.Orders.{compare_less, less_from_compare}
use Rattle.nc_algebra.proofs.Sums.{linear_sum-append}
use Rattle.nc_algebra.proofs.Words.{word_irrefl, word_trans, words_compare}
use Rattle.nc_algebra.specs.Polynomials.{AllLess, AreResidues, IsDescending, Polynomial, normal_form, polynomial_times}
use Rattle.nc_algebra.specs.Sums.{SameSum, Term, is_at, linear_sum, minus}
use Rattle.nc_algebra.specs.Words.{IsWordLess, Word, compare_words, same_word}
use Rattle.nc_poly.proofs.Multiples.{multiples_are_residues, same_subtracted}
use Rattle.nc_poly.specs.Ordered.{AllBelow, AreResiduesBy, Descends, listed}
use Rattle.nc_poly.proofs.Passes.{listed_push}
use Rattle.nc_poly.specs.Multiples.{multiple_of, multiples_of}
use Rattle.std.proofs.Common.{All, List, [], ap, ap₂, append_assoc, arith, get_or, length, subst, sym, take, ℕ, ◌%◌, ◌*◌, ◌+◌, ◌++◌, ◌-◌, ◌<◌, ◌∙◌, ◌∷◌, ◌≡◌}
use Rattle.std.proofs.lemmas.List.{map_more}
use Rattle.std.proofs.lemmas.List.Elements.{All-from_recursion, recursion_from_All}
use Rattle.std.specs.List.{AllByRecursion}

-- ---- the order

pub less_below : (w : Word) (f : Polynomial) → AllLess w f → AllBelow compare_words w f
less_below w [] a = tt
less_below w (t ∷ f) a = (
  compare_less compare_words IsWordLess words_compare word_irrefl word_trans t.key w a.0,
  less_below w f a.1,
)

below_less : (w : Word) (f : Polynomial) → AllBelow compare_words w f → AllLess w f
below_less w [] a = tt
below_less w (t ∷ f) a =
    (less_from_compare compare_words IsWordLess words_compare t.key w a.0, below_less w f a.1)

pub words_descend : (f : Polynomial) → Descends compare_words f → IsDescending f
words_descend [] d = tt
words_descend (t ∷ f) d = (d.0, below_less t.key f d.1, words_descend f d.2)

-- of terms that descend, those behind some do
pub descends_back : (f g : Polynomial) → IsDescending (f ++ g) → IsDescending g
descends_back [] g d = d
descends_back (t ∷ f) g d = descends_back f g d.2

-- ---- a multiple subtracted

same_swap : (p : ℕ) (f g : Polynomial) → SameSum same_word p (f ++ g) (g ++ f)
same_swap p f g = record {
  at = λ x.
      let left = linear_sum-append (is_at same_word x) f g in
      let right = linear_sum-append (is_at same_word x) g f in
      let same : linear_sum (is_at same_word x) (f ++ g) ≡ linear_sum (is_at same_word x) (g ++ f) =
      omega arith in
      ap (λ n. n % p) same;
}

pub heap_subtracted : (p c : ℕ) (u v : Word) (old new g product : Polynomial) → c < p
    → IsDescending new → AreResidues p new → SameSum same_word p new (product ++ old)
    → product ≡ multiples_of p ((p - c) % p) u g v
    → new ≡ normal_form p (minus p old c (polynomial_times u g v))
heap_subtracted p c u v old new g product small falls residues same is =
    normal_form_only p (minus p old c (polynomial_times u g v)) new (omega arith) (falls, residues)
    (same-trans same_word p new (product ++ old) (minus p old c (polynomial_times u g v)) same
    (same-trans same_word p (product ++ old) (old ++ product)
    (minus p old c (polynomial_times u g v)) (same_swap p product old)
    (subst (λ (l : Polynomial). SameSum same_word p (old ++ l)
    (minus p old c (polynomial_times u g v))) (sym is)
    (same_subtracted p c u v old g small))))

-- pairs whose terms have residues
listed_small : {K : Type 0} (p : ℕ) (es : List (K × ℕ))
    → AllByRecursion (λ t. t.coefficient < p) (listed es) → AllByRecursion (λ e. e.1 < p) es
listed_small p [] a = tt
listed_small p (e ∷ es) a = (a.0, listed_small p es a.1)

pub listed_residues : {K : Type 0} (p : ℕ) (es : List (K × ℕ)) → AreResiduesBy p (listed es)
    → All (λ e. e.1 < p) es
listed_residues p es a =
    All-from_recursion (λ e. e.1 < p) es
    (listed_small p es (recursion_from_All (λ t. t.coefficient < p) (listed es) a))

pub pairs_are_residues : (p c : ℕ) (u v : Word) (g : Polynomial) (es : List (Word × ℕ)) → 0 < p
    → listed es ≡ multiples_of p c u g v → All (λ e. e.1 < p) es
pairs_are_residues p c u v g es some is =
    listed_residues p es (subst (AreResiduesBy p) (sym is) (multiples_are_residues p c u v g some))

-- ---- filling a heap, and listing a multiple

-- what is known of the next term that is moved
pub next_term : (terms left rest sum : Polynomial) (t : Term Word) → IsDescending terms
    → left ++ sum ≡ terms → left ≡ rest ++ t ∷ [] → (0 < t.coefficient)
    × AllBelow compare_words t.key sum
next_term terms left rest sum t d is parts =
    let all : terms ≡ rest ++ t ∷ sum =
    sym is ∙ (ap (λ (l : Polynomial). l ++ sum) parts ∙ append_assoc rest (t ∷ []) sum) in
    let down = descends_back rest (t ∷ sum) (subst (λ (l : Polynomial). IsDescending l) all d) in
    (down.0, less_below t.key sum down.1)

-- one more pair
pub listed_more : {K : Type 0} (start front : List (Term K)) (items new : List (K × ℕ)) (t : Term K)
    (e : K × ℕ) → listed items ≡ start ++ front → new ≡ items ++ e ∷ [] → e.0 ≡ t.key
    → e.1 ≡ t.coefficient → listed new ≡ start ++ (front ++ t ∷ [])
listed_more {K} start front items new t e so_far is key coefficient =
    let term : Term K = record { coefficient = e.1; key = e.0 } in
    let same : term ≡ t =
    ap₂ (λ n k. let r : Term K = record { coefficient = n; key = k } in r) coefficient key in
    ap listed is ∙ (listed_push items e
    ∙ (ap₂ (λ (l : List (Term K)) (s : Term K). l ++ s ∷ []) so_far same
    ∙ append_assoc start front (t ∷ [])))

pub pairs_more : (p c : ℕ) (u v : Word) (g start : Polynomial) (items new : List (Word × ℕ)) (i : ℕ)
    (t : Term Word) (e : Word × ℕ) → i < length g → t ≡ get_or g i t
    → listed items ≡ start ++ multiples_of p c u (take i g) v → new ≡ items ++ e ∷ []
    → e.0 ≡ u ++ (t.key ++ v) → e.1 ≡ (c * t.coefficient) % p
    → listed new ≡ start ++ multiples_of p c u (take (i + 1) g) v
pairs_more p c u v g start items new i t e within at so_far is key coefficient =
    listed_more start (multiples_of p c u (take i g) v) items new (multiple_of p c u v t) e so_far
    is key coefficient
    ∙ ap (λ (l : Polynomial). start ++ l)
    (ap (λ (s : Term Word). multiples_of p c u (take i g) v ++ s ∷ [])
    (ap (multiple_of p c u v) at) ∙ sym (map_more (multiple_of p c u v) g i t within))
