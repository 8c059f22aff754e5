-- Equality of outcomes and of problems with names can be decided.
-- A desk compares the problem of a work with its own, and the outcome with what handling gives.
-- Records are equal if their parts are.
use Rattle.nc_algebra.proofs.Monomials.{monomial_laws}
use Rattle.nc_algebra.proofs.Orders.{Decided, nat_dec}
use Rattle.nc_algebra.proofs.Sums.{key_dec}
use Rattle.nc_algebra.specs.Elements.{Setting}
use Rattle.nc_algebra.specs.Monomials.{IsMonomialLess, Monomial, same_monomial}
use Rattle.nc_algebra.specs.Polynomials.{Polynomial}
use Rattle.nc_algebra.specs.Alphabets.{Alphabet}
use Rattle.nc_algebra.specs.Problems.{Bound, NamedProblem, Problem}
use Rattle.nc_algebra.specs.Sums.{Term}
use Rattle.nc_algebra.specs.Words.{Word}
use Rattle.nc_theory.proofs.Decisions.{pair_dec, word_dec}
use Rattle.nc_theory.specs.Runs.{Outcome}
use Rattle.nc_theory.specs.States.{Start, Step, Trace}
use Rattle.std.proofs.Common.{List, [], ap, inl, inr, refl, ◌∷◌, ◌≡◌}

-- a fact that one or two others make up
one : {A C : Type 0} → Decided A → (A → C) → (C → A) → Decided C
one (inl a) join first = inl (join a)
one (inr n) join first = inr (λ c. n (first c))

both : {A B C : Type 0} → Decided A → Decided B → (A → B → C) → (C → A) → (C → B) → Decided C
both a b join first second = one (pair_dec a b) (λ t. join t.0 t.1) (λ c. (first c, second c))

list_dec : {X : Type 0} → ((x y : X) → Decided (x ≡ y)) → (xs ys : List X) → Decided (xs ≡ ys)
list_dec dec [] [] = inl refl
list_dec dec [] (y ∷ ys) = inr (λ e. let none : ⊥ = cc in none)
list_dec dec (x ∷ xs) [] = inr (λ e. let none : ⊥ = cc in none)
list_dec dec (x ∷ xs) (y ∷ ys) =
    both (dec x y) (list_dec dec xs ys) (λ a b i. a i ∷ b i) (λ e. cc) (λ e. cc)

pub monomial_dec : (σ τ : Monomial) → Decided (σ ≡ τ)
monomial_dec σ τ = key_dec same_monomial (IsMonomialLess (λ i. i)) (monomial_laws (λ i. i)) σ τ

term_dec : (t u : Term Word) → Decided (t ≡ u)
term_dec t u =
    both (nat_dec t.coefficient u.coefficient) (word_dec t.key u.key)
    (λ a b i. record { coefficient = a i; key = b i }) (ap (λ x. x.coefficient)) (ap (λ x. x.key))

polynomial_dec : (f g : Polynomial) → Decided (f ≡ g)
polynomial_dec f g = list_dec term_dec f g

step_dec : (x y : Step) → Decided (x ≡ y)
step_dec x y =
    both (pair_dec (nat_dec x.coefficient y.coefficient) (nat_dec x.number y.number))
    (pair_dec (word_dec x.left y.left) (word_dec x.right y.right))
    (λ a b i. record { coefficient = a.0 i; left = b.0 i; number = a.1 i; right = b.1 i })
    (λ e. (ap (λ z. z.coefficient) e, ap (λ z. z.number) e))
    (λ e. (ap (λ z. z.left) e, ap (λ z. z.right) e))

start_dec : (x y : Start) → Decided (x ≡ y)
start_dec (Start.a_generator i) (Start.a_generator j) =
    one (nat_dec i j) (ap Start.a_generator) (λ e. cc)
start_dec (Start.a_generator i) (Start.a_multiple u n v) = inr (λ e. let none : ⊥ = cc in none)
start_dec (Start.a_multiple u n v) (Start.a_generator j) = inr (λ e. let none : ⊥ = cc in none)
start_dec (Start.a_multiple u n v) (Start.a_multiple u' n' v') =
    both (nat_dec n n') (pair_dec (word_dec u u') (word_dec v v'))
    (λ a b i. Start.a_multiple (b.0 i) (a i) (b.1 i)) (λ e. cc) (λ e. (cc, cc))

trace_dec : (x y : Trace) → Decided (x ≡ y)
trace_dec x y =
    both (start_dec x.start y.start) (list_dec step_dec x.steps y.steps)
    (λ a b i. record { start = a i; steps = b i }) (ap (λ z. z.start)) (ap (λ z. z.steps))

pub outcome_dec : (o o' : Outcome) → Decided (o ≡ o')
outcome_dec Outcome.covered Outcome.covered = inl refl
outcome_dec Outcome.covered (Outcome.settled j) = inr (λ e. let none : ⊥ = cc in none)
outcome_dec Outcome.covered (Outcome.an_entry f t) = inr (λ e. let none : ⊥ = cc in none)
outcome_dec Outcome.covered (Outcome.a_syzygy t) = inr (λ e. let none : ⊥ = cc in none)
outcome_dec (Outcome.settled i) Outcome.covered = inr (λ e. let none : ⊥ = cc in none)
outcome_dec (Outcome.settled i) (Outcome.settled j) =
    one (nat_dec i j) (ap Outcome.settled) (λ e. cc)
outcome_dec (Outcome.settled i) (Outcome.an_entry f t) = inr (λ e. let none : ⊥ = cc in none)
outcome_dec (Outcome.settled i) (Outcome.a_syzygy t) = inr (λ e. let none : ⊥ = cc in none)
outcome_dec (Outcome.an_entry f t) Outcome.covered = inr (λ e. let none : ⊥ = cc in none)
outcome_dec (Outcome.an_entry f t) (Outcome.settled j) = inr (λ e. let none : ⊥ = cc in none)
outcome_dec (Outcome.an_entry f t) (Outcome.an_entry g u) =
    both (polynomial_dec f g) (trace_dec t u) (λ a b i. Outcome.an_entry (a i) (b i)) (λ e. cc)
    (λ e. cc)
outcome_dec (Outcome.an_entry f t) (Outcome.a_syzygy u) = inr (λ e. let none : ⊥ = cc in none)
outcome_dec (Outcome.a_syzygy t) Outcome.covered = inr (λ e. let none : ⊥ = cc in none)
outcome_dec (Outcome.a_syzygy t) (Outcome.settled j) = inr (λ e. let none : ⊥ = cc in none)
outcome_dec (Outcome.a_syzygy t) (Outcome.an_entry f u) = inr (λ e. let none : ⊥ = cc in none)
outcome_dec (Outcome.a_syzygy t) (Outcome.a_syzygy u) =
    one (trace_dec t u) (ap Outcome.a_syzygy) (λ e. cc)

bound_dec : (b c : Bound) → Decided (b ≡ c)
bound_dec (Bound.to_degree d) (Bound.to_degree e) = one (nat_dec d e) (ap Bound.to_degree) (λ i. cc)
bound_dec (Bound.to_degree d) (Bound.under β) = inr (λ e. let none : ⊥ = cc in none)
bound_dec (Bound.under β) (Bound.to_degree d) = inr (λ e. let none : ⊥ = cc in none)
bound_dec (Bound.under β) (Bound.under γ) = one (monomial_dec β γ) (ap Bound.under) (λ i. cc)

setting_dec : (s t : Setting) → Decided (s ≡ t)
setting_dec s t =
    both (nat_dec s.prime t.prime) (list_dec polynomial_dec s.generators t.generators)
    (λ a b i. record { prime = a i; generators = b i }) (ap (λ z. z.prime)) (ap (λ z. z.generators))

problem_dec : (P Q : Problem) → Decided (P ≡ Q)
problem_dec P Q =
    both (setting_dec P.setting Q.setting)
    (pair_dec (bound_dec P.bound Q.bound) (nat_dec P.steps Q.steps))
    (λ a b i. record { setting = a i; bound = b.0 i; steps = b.1 i }) (ap (λ z. z.setting))
    (λ e. (ap (λ z. z.bound) e, ap (λ z. z.steps) e))

alphabet_dec : (a b : Alphabet) → Decided (a ≡ b)
alphabet_dec a b =
    both (list_dec (list_dec nat_dec) a.names b.names) (list_dec nat_dec a.weights b.weights)
    (λ n w i. record { names = n i; weights = w i }) (ap (λ z. z.names)) (ap (λ z. z.weights))

pub named_dec : (P Q : NamedProblem) → Decided (P ≡ Q)
named_dec P Q =
    both (problem_dec P.problem Q.problem) (alphabet_dec P.alphabet Q.alphabet)
    (λ a b i. record { problem = a i; alphabet = b i }) (ap (λ z. z.problem)) (ap (λ z. z.alphabet))
