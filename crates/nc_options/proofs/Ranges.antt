-- The numbers of options lie in their ranges.
use Rattle.std.proofs.Common.{◌≡◌, ◌≤◌, ◌&&◌, ℕ, Bool, true, false, refl, subst, arith, List, [], ◌∷◌, Option, Some, None, codes}
use Rattle.std.specs.Prelude.{if◌then◌else◌, nat_le, option_and_then, option_map}
use Rattle.std.specs.Str.{bytes_eq}
use Rattle.std.proofs.lemmas.Bool.{leb-true}
use Rattle.nc_options.proofs.Turns.{none_of_some}
use Rattle.nc_options.specs.Pieces.{Text}
use Rattle.nc_options.specs.Uses.{Use, number_id, uses_of, value_of}
use Rattle.nc_options.specs.Laws.{AreInRange, IsInRange, OptionsAreInRange}
use Rattle.nc_options.specs.Options.{basis_after, basis_names, basis_of, basis_with, check_after, demo_after, demo_names, demo_of, demo_with, member_after, member_names, member_of, member_with, of_four}
use Rattle.nc_options.specs.Values.{cofactors_option, degree_option, digits_of, form_option, limit_option, number_in, number_option, number_or, window_option, within, workers_option}
use Rattle.nc_options.specs.declared.options.BasisOptions.{BasisOptions}
use Rattle.nc_options.specs.declared.options.DemoOptions.{DemoOptions}
use Rattle.nc_options.specs.declared.options.MemberOptions.{MemberOptions}
use Rattle.nc_options.specs.declared.options.Options.{Options}
use Rattle.nc_options.specs.declared.options.Options.TheVariants.{Basis, Check, Demo, Member}

-- ---- numbers

within_range : (low high m n : ℕ) → within low high m ≡ Some n → IsInRange low high n
within_range low high m n e = go (nat_le low m) (nat_le m high) refl refl e
  where
    go : (a b : Bool) → nat_le low m ≡ a → nat_le m high ≡ b
        → (if a && b then Some m else None) ≡ Some n → IsInRange low high n
    go true true is is2 f =
        let same : m ≡ n = cc in
        let above = leb-true low m is in
        let below = leb-true m high is2 in
        (omega arith, omega arith)
    go true false is is2 f = absurd (none_of_some n f)
    go false b is is2 f = absurd (none_of_some n f)

in_range : (low high : ℕ) (text : Text) (n : ℕ) → number_in low high text ≡ Some n
    → IsInRange low high n
in_range low high text n e = go (digits_of text) e
  where
    go : (o : Option ℕ) → option_and_then (within low high) o ≡ Some n → IsInRange low high n
    go None f = absurd (none_of_some n f)
    go (Some m) f = within_range low high m n f

or_in_range : (low high default : ℕ) (text : Option Text) (n : ℕ) → low ≤ default → default ≤ high
    → number_or low high default text ≡ Some n → IsInRange low high n
or_in_range low high default None n above below e =
    let same : default ≡ n = cc in
    (omega arith, omega arith)
or_in_range low high default (Some text) n above below e = in_range low high text n e

-- ---- options

-- what holds of all that can be made of four values holds of what is made
of_four_holds : {A B C D O : Type 0} (make : A → B → C → D → O) (P : O → Type 0) (x : Option A)
    (y : Option B) (z : Option C) (u : Option D) (o : O)
    → ((a : A) (b : B) (c : C) (d : D) → x ≡ Some a → y ≡ Some b → z ≡ Some c → u ≡ Some d
    → P (make a b c d)) → of_four make x y z u ≡ Some o → P o
of_four_holds make P (Some a) (Some b) (Some c) (Some d) o h e =
    let same : make a b c d ≡ o = cc in
    subst P same (h a b c d refl refl refl refl)
of_four_holds make P (Some a) (Some b) (Some c) None o h e = absurd (none_of_some o e)
of_four_holds make P (Some a) (Some b) None u o h e = absurd (none_of_some o e)
of_four_holds make P (Some a) None z u o h e = absurd (none_of_some o e)
of_four_holds make P None y z u o h e = absurd (none_of_some o e)

module _ (given : Text → Option Text) where
  workers_in : (n : ℕ) → workers_option given ≡ Some n → IsInRange 1 64 n
  workers_in n e = or_in_range 1 64 1 (given (codes "workers")) n (omega arith) (omega arith) e

  window_in : (n : ℕ) → window_option given ≡ Some n → IsInRange 1 4096 n
  window_in n e = or_in_range 1 4096 64 (given (codes "window")) n (omega arith) (omega arith) e

  limit_in : (n : ℕ) → limit_option given ≡ Some n → IsInRange 1 10000000 n
  limit_in n e =
      or_in_range 1 10000000 10000 (given (codes "limit")) n (omega arith) (omega arith) e

  degree_in : (n : ℕ) → degree_option given ≡ Some n → IsInRange 2 10 n
  degree_in n e = or_in_range 2 10 6 (given (codes "degree")) n (omega arith) (omega arith) e

  number_in_range : (n : ℕ) → number_option given ≡ Some n → IsInRange 0 65536 n
  number_in_range n e = go (given number_id) e
    where
      go : (text : Option Text) → option_and_then (number_in 0 65536) text ≡ Some n
          → IsInRange 0 65536 n
      go None f = absurd (none_of_some n f)
      go (Some text) f = in_range 0 65536 text n f

  -- `basis` and `member` have three numbers in common
  usual_in : {L O : Type 0} (make : ℕ → ℕ → ℕ → L → O) (P : O → Type 0) (last : Option L)
      → ((w x l : ℕ) (y : L)
      → IsInRange 1 64 w × IsInRange 1 4096 x × IsInRange 1 10000000 l → P (make w x l y))
      → (o : O)
      → of_four make (workers_option given) (window_option given) (limit_option given) last ≡ Some o
      → P o
  usual_in make P last h o e =
      of_four_holds make P (workers_option given) (window_option given) (limit_option given) last o
      (λ w x l y a b c d. h w x l y (workers_in w a, window_in x b, limit_in l c)) e

  basis_in : (o : BasisOptions) → basis_of given ≡ Some o → AreInRange (Basis o)
  basis_in =
      usual_in basis_with (λ o. AreInRange (Basis o)) (cofactors_option given) (λ w x l y h. h)

  member_in : (o : MemberOptions) → member_of given ≡ Some o → AreInRange (Member o)
  member_in =
      usual_in member_with (λ o. AreInRange (Member o)) (form_option given) (λ w x l y h. h)

  demo_in : (o : DemoOptions) → demo_of given ≡ Some o → AreInRange (Demo o)
  demo_in o e =
      of_four_holds demo_with (λ p. AreInRange (Demo p)) (number_option given) (degree_option given)
      (workers_option given) (window_option given) o
      (λ n d w x a b c f. (number_in_range n a, degree_in d b, workers_in w c, window_in x f)) e

-- ---- command lines

made : {T : Type 0} (read : (Text → Option Text) → Option T) (make : T → Options)
    (uses : Option (List Use)) (o : Options)
    → ((given : Text → Option Text) (t : T) → read given ≡ Some t → AreInRange (make t))
    → option_and_then (λ us. option_map make (read (λ name. value_of name us))) uses ≡ Some o
    → AreInRange o
made read make None o h e = absurd (none_of_some o e)
made {T} read make (Some us) o h e = go (read (λ name. value_of name us)) refl e
  where
    go : (v : Option T) → read (λ name. value_of name us) ≡ v → option_map make v ≡ Some o
        → AreInRange o
    go None is f = absurd (none_of_some o f)
    go (Some t) is f =
        let same : make t ≡ o = cc in
        subst AreInRange same (h (λ name. value_of name us) t is)

made_check : (uses : Option (List Use)) (o : Options) → option_map (λ us. Check) uses ≡ Some o
    → AreInRange o
made_check None o e = absurd (none_of_some o e)
made_check (Some us) o e =
    let same : Check ≡ o = cc in
    subst AreInRange same tt

pub ranges : OptionsAreInRange
ranges [] o e = absurd (none_of_some o e)
ranges (command ∷ words) o e =
    go (bytes_eq command (codes "basis")) (bytes_eq command (codes "member"))
    (bytes_eq command (codes "check")) (bytes_eq command (codes "demo")) e
  where
    go : (a b c d : Bool) → (if a then basis_after words else
        (if b then member_after words else
        (if c then check_after words else (if d then demo_after words else None)))) ≡ Some o
        → AreInRange o
    go true b c d f = made basis_of Basis (uses_of basis_names false words) o basis_in f
    go false true c d f = made member_of Member (uses_of member_names false words) o member_in f
    go false false true d f = made_check (uses_of [] false words) o f
    go false false false true f = made demo_of Demo (uses_of demo_names true words) o demo_in f
    go false false false false f = absurd (none_of_some o f)
