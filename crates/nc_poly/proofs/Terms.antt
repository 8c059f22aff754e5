-- Lists of terms as code sorts them and writes into them.
-- A list that was sorted descends (`falls_from_sorted`); `before_order` is what the sort asks of
-- its order. `IsCarried` is the invariant of the loop that carries coefficients on: a front that is
-- done, one last term, and the rest as it was. `pair_written` says what the two writes of one turn
-- leave of the list.
use Rattle.nc_algebra.proofs.Words.{word_less_complete, word_total, words_order}
use Rattle.nc_algebra.specs.Polynomials.{Polynomial}
use Rattle.nc_algebra.specs.Sums.{Term}
use Rattle.nc_algebra.specs.Words.{IsWordLess, Word, compare_words, same_word}
use Rattle.nc_poly.specs.Collecting.{AllUpTo, IsFalling, carried, carried_behind, gained, left_of}
use Rattle.std.proofs.Common.{Bool, List, [], ap, ap₂, arith, cond, false, get_or, inl, inr, is_lt, length, refl, suc, sym, true, ℕ, ◌%◌, ◌+◌, ◌++◌, ◌-◌, ◌<◌, ◌∙◌, ◌∷◌, ◌≡◌, ◌≤◌, ◌⊎◌}
use Rattle.std.proofs.Math.ListN.{set}
use Rattle.std.proofs.Math.Seq.{get_or-append_seam, set-append_seam}
use Rattle.std.proofs.lemmas.Bool.{false≢true}
use Rattle.std.proofs.lemmas.List.{append_assoc, length-append}
use Rattle.std.proofs.lemmas.List.Sorted.{IsStrictWeakOrder-flip, ranks_by, sorted_far}
use Rattle.std.specs.Cmp.{IsStrictWeakOrder}
use Rattle.std.specs.List.Sorted.{IsSortedBy}

-- ---- sorting

-- the order that the sort is asked for: the greater word first
abbrev pub is_before : Term Word → Term Word → Bool
is_before t u = is_lt (compare_words u.key t.key)

far_falls : (f : Polynomial) → ((i j : ℕ) (d : Term Word) → i ≤ j → j < length f
    → is_before (get_or f j d) (get_or f i d) ≡ false) → IsFalling f
far_falls [] h = tt
far_falls (t ∷ f) h = (
  each f (λ k d l. at k d l),
  far_falls f
      (λ i j d l m. h (suc i) (suc j) d (omega arith) (omega arith)),
)
  where
    at : (k : ℕ) (d : Term Word) → k < length f → is_before (get_or f k d) t ≡ false
    at k d l = h 0 (suc k) d (omega arith) (omega arith)

    up_to : (u : Term Word) → is_before u t ≡ false → (u.key ≡ t.key) ⊎ IsWordLess u.key t.key
    up_to u e = go (word_total u.key t.key)
      where
        go : IsWordLess u.key t.key ⊎ ((u.key ≡ t.key) ⊎ IsWordLess t.key u.key) → (u.key ≡ t.key)
            ⊎ IsWordLess u.key t.key
        go (inl l) = inr l
        go (inr (inl i)) = inl i
        go (inr (inr l)) = absurd (false≢true (sym e ∙ word_less_complete t.key u.key l))

    each : (g : Polynomial) → ((k : ℕ) (d : Term Word) → k < length g
        → is_before (get_or g k d) t ≡ false) → AllUpTo t.key g
    each [] k = tt
    each (u ∷ g) k = (up_to u (k 0 u (omega arith)), each g (λ i d l. k (suc i) d (omega arith)))

pub before_order : IsStrictWeakOrder is_before
before_order =
    IsStrictWeakOrder-flip (λ (t u : Term Word). is_lt (compare_words t.key u.key))
    (ranks_by words_order (λ (t : Term Word). t.key))

-- a list that is sorted so falls
pub falls_from_sorted : (f : Polynomial) → IsSortedBy is_before f → IsFalling f
falls_from_sorted f h = far_falls f (sorted_far is_before before_order f h)

-- ---- carrying on

-- the element at a seam of a list, and a write there
seam : {X : Type 0} (items front : List X) (y : X) (ys : List X) (i : ℕ) (e : X)
    → items ≡ front ++ y ∷ ys → i ≡ length front → e ≡ get_or items i e → e ≡ y
seam items front y ys i e parts place is =
    is ∙ (ap (λ l. get_or l i e) parts
    ∙ (ap (λ k. get_or (front ++ y ∷ ys) k e) place ∙ get_or-append_seam front y ys e))

written : {X : Type 0} (items front : List X) (y : X) (ys : List X) (i : ℕ) (z : X)
    → items ≡ front ++ y ∷ ys → i ≡ length front → set items i z ≡ front ++ z ∷ ys
written items front y ys i z parts place =
    ap (λ l. set l i z) parts ∙ (ap (λ k. set (front ++ y ∷ ys) k z) place
    ∙ set-append_seam front y ys z)

further : {X : Type 0} (front : List X) (t : X) (rest : List X)
    → front ++ t ∷ rest ≡ (front ++ t ∷ []) ++ rest
further front t rest = sym (append_assoc front (t ∷ []) rest)

-- what two writes leave of a list
pub pair_written : (p at : ℕ) (items front rest : Polynomial) (t u a b c d x y : Term Word)
    → items ≡ front ++ t ∷ (u ∷ rest) → length front + 1 ≡ at
    → a ≡ get_or items (at - 1) a → b ≡ get_or items at b → same_word a.key b.key ≡ true
    → c ≡ get_or items (at - 1) c → x ≡ record { coefficient = 0; key = c.key }
    → d ≡ get_or (set items (at - 1) x) at d
    → y ≡ record { coefficient = (c.coefficient + d.coefficient) % p; key = d.key }
    → set (set items (at - 1) x) at y ≡ front ++ left_of t u ∷ (gained p t u ∷ rest)
pair_written p at items front rest t u a b c d x y parts place ea eb same ec ex ed ey =
    let before : at - 1 ≡ length front = omega arith in
    let here : at ≡ length (front ++ t ∷ []) = omega (arith, length-append front (t ∷ [])) in
    let there : at ≡ length (front ++ x ∷ []) = omega (arith, length-append front (x ∷ [])) in
    let regrouped : items ≡ (front ++ t ∷ []) ++ (u ∷ rest) = parts ∙ further front t (u ∷ rest) in
    let first : set items (at - 1) x ≡ (front ++ x ∷ []) ++ (u ∷ rest) =
    written items front t (u ∷ rest) (at - 1) x parts before ∙ further front x (u ∷ rest) in
    let a_is : a ≡ t = seam items front t (u ∷ rest) (at - 1) a parts before ea in
    let b_is : b ≡ u = seam items (front ++ t ∷ []) u rest at b regrouped here eb in
    let c_is : c ≡ t = seam items front t (u ∷ rest) (at - 1) c parts before ec in
    let d_is : d ≡ u = seam (set items (at - 1) x) (front ++ x ∷ []) u rest at d first there ed in
    let one_word : same_word t.key u.key ≡ true =
    sym (ap₂ (λ (v w : Term Word). same_word v.key w.key) a_is b_is) ∙ same in
    let x_is : x ≡ left_of t u =
    ex ∙ (ap (λ (v : Term Word). let r : Term Word = record { coefficient = 0; key = v.key } in
    r) c_is ∙ sym (ap (λ b. cond b (record { coefficient = 0; key = t.key }) t) one_word))
    in
    let y_is : y ≡ gained p t u =
    ey ∙ (ap₂ (λ (v w : Term Word). let r : Term Word = record
    { coefficient = (v.coefficient + w.coefficient) % p; key = w.key } in r) c_is d_is
    ∙ sym (ap (λ b. cond b (record {
      coefficient = (t.coefficient + u.coefficient) % p;
      key = u.key;
    }) u) one_word)) in
    written (set items (at - 1) x) (front ++ x ∷ []) u rest at y first there
    ∙ (sym (further front x (y ∷ rest)) ∙ ap₂ (λ (v w : Term Word). front ++ v ∷ (w ∷ rest))
    x_is y_is)

-- how far the coefficients are carried on: up to the term at `at`
pub record IsCarried (p : ℕ) (start now : Polynomial) (at : ℕ) : Type 0 where
  pub front : Polynomial
  pub last : Term Word
  pub rest : Polynomial
  pub parts : now ≡ front ++ last ∷ rest
  pub place : length front + 1 ≡ at
  pub done : carried p start ≡ front ++ carried_behind p last rest

pub carried_begins : (p : ℕ) (start : Polynomial) → 0 < length start → IsCarried p start start 1
carried_begins p [] l = absurd (omega arith)
carried_begins p (t ∷ f) l =
    record { front = []; last = t; rest = f; parts = refl; place = refl; done = refl }

pub carried_step : (p : ℕ) (start now new : Polynomial) (at : ℕ) → at < length now
    → ((front rest : Polynomial) (t u : Term Word) → now ≡ front ++ t ∷ (u ∷ rest)
    → length front + 1 ≡ at → new ≡ front ++ left_of t u ∷ (gained p t u ∷ rest))
    → IsCarried p start now at → IsCarried p start new (at + 1)
carried_step p start now new at within pair h = go h.rest refl
  where
    go : (rest : Polynomial) → h.rest ≡ rest → IsCarried p start new (at + 1)
    go [] e =
        absurd (omega (
          arith,
          within,
          h.place,
          ap length (h.parts ∙ ap (λ (r : Polynomial). h.front ++ h.last ∷ r) e),
          length-append h.front (h.last ∷ []),
        ))
    go (u ∷ f) e =
        let split : now ≡ h.front ++ h.last ∷ (u ∷ f) =
        h.parts ∙ ap (λ (r : Polynomial). h.front ++ h.last ∷ r) e in
        record {
          front = h.front ++ left_of h.last u ∷ [];
          last = gained p h.last u;
          rest = f;
          parts = pair h.front f h.last u split h.place
              ∙ further h.front (left_of h.last u) (gained p h.last u ∷ f);
          place = omega (arith, length-append h.front (left_of h.last u ∷ []), h.place);
          done = h.done ∙ (ap (λ (r : Polynomial). h.front ++ carried_behind p h.last r) e
              ∙ further h.front (left_of h.last u) (carried_behind p (gained p h.last u) f));
        }
