-- What holds of the value that steps of reading give, where they tell no fault.
use Rattle.nc_tokens.specs.Wanted.{◌>>=◌}
use Rattle.std.proofs.Common.{Bool, Err, IfOk, Ok, Result, cond, false, refl, true, ◌≡◌}

-- what holds of the value of a step, and then of the steps after it
pub on_bind : {A B E : Type 0} (P : A → Type 0) (Q : B → Type 0) (r : Result A E) (f : A
    → Result B E) → IfOk r P → ((x : A) → P x → IfOk (f x) Q) → IfOk (r >>= f) Q
on_bind P Q (Ok x) f h next = next x h
on_bind P Q (Err e) f h next = tt

-- of a step of which nothing is said
pub on_any : {A E : Type 0} (r : Result A E) → IfOk r (λ x. Unit {0})
on_any (Ok x) = tt
on_any (Err e) = tt

-- of a choice
pub on_choice : {A E : Type 0} (P : A → Type 0) (b : Bool) (r s : Result A E)
    → (b ≡ true → IfOk r P) → (b ≡ false → IfOk s P) → IfOk (cond b r s) P
on_choice P true r s when_true when_false = when_true refl
on_choice P false r s when_true when_false = when_false refl

-- of a value of which more is known
pub on_weaker : {A E : Type 0} (P Q : A → Type 0) (r : Result A E) → ((x : A) → P x → Q x)
    → IfOk r P → IfOk r Q
on_weaker P Q (Ok x) weaker h = weaker x h
on_weaker P Q (Err e) weaker h = tt
