-- Reading lines with one keyword, one after the other, as a loop does.
-- `AreLines` says what such lines are, and `IsOnTheWay` is the invariant: the values so far, and
-- what is read of the lines that follow, are the whole. `begin`, `goes_on`, `fails` and `ends` are
-- the lemmas of the loop.
use Rattle.nc_tokens.specs.Gives.{FailsText}
use Rattle.nc_tokens.specs.Lines.{End, Line, Row, Written, a_line, at_line, begins, behind, row, lines_left}
use Rattle.nc_tokens.specs.Wanted.{◌>>=◌}
use Rattle.nc_tokens.specs.Tokens.{Token}
use Rattle.nc_tokens.specs.declared.fault.Kind.{Kind}
use Rattle.nc_tokens.specs.declared.fault.ReadFault.{ReadFault}
use Rattle.nc_tokens.specs.declared.fault.ReadFault.TheVariants as faults
use Rattle.nc_tokens.specs.declared.fault.TextFault.{TextFault}
use Rattle.std.proofs.Common.{Bool, Err, List, None, Ok, Result, Some, [], ap, append_assoc, arith, cond, false, refl, subst, sym, true, ℕ, ◌&&◌, ◌++◌, ◌-◌, ◌<◌, ◌∙◌, ◌∷◌, ◌≡◌}
use Rattle.std.proofs.lemmas.List.{append-nil}

one_line : (b : Bool) (r s : Row) → cond b (Some r) None ≡ Some s → (b ≡ true) × (r ≡ s)
one_line true r s e = (refl, cc)
one_line false r s e = absurd cc

no_line : (b : Bool) (r : Row) → cond b (Some r) None ≡ None → b ≡ false
no_line true r e = absurd cc
no_line false r e = refl

pub fewer : (keyword : List ℕ) (w : Written) (r : Row) → a_line keyword w ≡ Some r
    → lines_left r.after < lines_left w
unfolding a_line
fewer keyword (End n) r e = absurd cc
fewer keyword (Line n clean ts after) r e =
    let k = one_line (clean && begins keyword ts) (row n (behind ts) after) r e in
    omega (arith, ap (λ (r : Row). lines_left r.after) k.1)

abbrev pub Read : Type 0 → Type 0
Read A = Result (List A × Written) TextFault

-- a value in front of those that are read
abbrev pub with_first : {A : Type 0} → Read A → A → Read A
with_first others first = others >>= λ x. Ok (first ∷ x.0, x.1)

-- the same with several
abbrev pub with_front : {A : Type 0} → List A → Read A → Read A
with_front front read = read >>= λ x. Ok (front ++ x.0, x.1)

-- what a line says, and the lines behind it
abbrev pub line_then : {A : Type 0} → Row → Result A Kind → Read A → Read A
line_then r value others = at_line r.number value >>= with_first others

-- lines with a keyword, of which so many may still come: what each says, and what all of them say
pub record AreLines {A : Type 0} (keyword : List ℕ) (value : ℕ → List Token → Result A Kind)
    (all : ℕ → Written → Read A) : Type 0 where
  pub more : (room : ℕ) (w : Written) (r : Row) → a_line keyword w ≡ Some r
      → all room w ≡ line_then r (value room r.tokens) (all (room - 1) r.after)
  pub none : (room : ℕ) (w : Written) → a_line keyword w ≡ None → all room w ≡ Ok ([], w)

pub taken : {A : Type 0} (keyword : List ℕ) (n : ℕ) (clean : Bool) (ts : List Token)
    (after : Written) (r : Row) (read : Row → Read A) (other : Read A)
    → a_line keyword (Line n clean ts after) ≡ Some r
    → cond (clean && begins keyword ts) (read (row n (behind ts) after)) other ≡ read r
unfolding a_line
taken keyword n clean ts after r read other e =
    let k = one_line (clean && begins keyword ts) (row n (behind ts) after) r e in
    ap (λ (b : Bool). cond b (read (row n (behind ts) after)) other) k.0 ∙ ap read k.1

pub passed_by : {A : Type 0} (keyword : List ℕ) (n : ℕ) (clean : Bool) (ts : List Token)
    (after : Written) (read other : Read A) → a_line keyword (Line n clean ts after) ≡ None
    → cond (clean && begins keyword ts) read other ≡ other
unfolding a_line
passed_by keyword n clean ts after read other e =
    ap (λ (b : Bool). cond b read other)
    (no_line (clean && begins keyword ts) (row n (behind ts) after) e)

pub regroup : {A : Type 0} (front : List A) (x : A) (r : Read A)
    → with_front front (with_first r x) ≡ with_front (front ++ x ∷ []) r
regroup front x (Ok y) = ap (λ (l : List _). Ok (l, y.1)) (sym (append_assoc front (x ∷ []) y.0))
regroup front x (Err e) = refl

pub no_front : {A : Type 0} (r : Read A) → with_front [] r ≡ r
no_front (Ok x) = refl
no_front (Err e) = refl

-- the values so far, and the lines that follow, are on the way to the whole
pub record IsOnTheWay {A : Type 0} (all : ℕ → Written → Read A) (front : List A) (room : ℕ)
    (w : Written) (whole : Read A) : Type 0 where
  pub same : with_front front (all room w) ≡ whole

pub begin : {A : Type 0} (all : ℕ → Written → Read A) (room : ℕ) (w : Written)
    → IsOnTheWay all [] room w (all room w)
begin all room w = record { same = no_front (all room w) }

pub bind_fails : {A B : Type 0} (e : ReadFault) (r : Result A TextFault) (f : A
    → Result B TextFault) → FailsText e r → FailsText e (r >>= f)
bind_fails faults.OutOfMemory r f h = tt
bind_fails (faults.Text k) r f h = ap (λ x. x >>= f) h

module _ {A : Type 0} (keyword : List ℕ) (value : ℕ → List Token → Result A Kind) (all : ℕ → Written
    → Read A) (are : AreLines keyword value all) where
  pub goes_on : (front : List A) (room : ℕ) (w : Written) (whole : Read A) (r : Row) (x : A)
      → a_line keyword w ≡ Some r → at_line r.number (value room r.tokens) ≡ Ok x
      → IsOnTheWay all front room w whole
      → IsOnTheWay all (front ++ x ∷ []) (room - 1) r.after whole
  goes_on front room w whole r x is read h = record {
    same = sym (regroup front x (all (room - 1) r.after))
        ∙ ap (λ (y : Result A TextFault). with_front front
        (y >>= with_first (all (room - 1) r.after))) (sym read)
        ∙ ap (with_front front) (sym (are.more room w r is)) ∙ h.same;
  }

  pub fails : (e : ReadFault) (front : List A) (room : ℕ) (w : Written) (whole : Read A) (r : Row)
      → a_line keyword w ≡ Some r → FailsText e (at_line r.number (value room r.tokens))
      → IsOnTheWay all front room w whole → FailsText e whole
  fails e front room w whole r is bad h =
      subst (λ (y : Read A). FailsText e y) (ap (with_front front) (sym (are.more room w r is))
      ∙ h.same)
      (bind_fails e (line_then r (value room r.tokens) (all (room - 1) r.after)) _
      (bind_fails e (at_line r.number (value room r.tokens)) _ bad))

  pub ends : (front : List A) (room : ℕ) (w : Written) (whole : Read A) → a_line keyword w ≡ None
      → IsOnTheWay all front room w whole → whole ≡ Ok (front, w)
  ends front room w whole is h =
      sym h.same ∙ ap (with_front front) (are.none room w is)
      ∙ ap (λ (l : List A). Ok (l, w)) (append-nil front)
