-- Each label has a normal form, so a number of terms; and of the labels with too many terms one is
-- the first, which is found among finitely many.
use Rattle.nc_algebra.proofs.Orders.{Decided, lt_dec}
use Rattle.nc_algebra.proofs.Primes.{field_from_prime}
use Rattle.nc_algebra.specs.Elements.{Element, HasDegree, Setting, generator_weight}
use Rattle.nc_algebra.specs.Monomials.{Sig, compare_sigs, same_monomial, sig_of}
use Rattle.nc_algebra.specs.Primes.{IsPrime}
use Rattle.nc_algebra.specs.Sums.{SameSum, Term, map_keys}
use Rattle.nc_cofactor.proofs.Firsts.{first_or_within, not_both, one_alone}
use Rattle.nc_cofactor.proofs.Keys.{keys_kept}
use Rattle.nc_cofactor.proofs.Once.{label_once}
use Rattle.nc_cofactor.proofs.Ordered.{HasNormal, has_normal}
use Rattle.nc_cofactor.proofs.Sums.{same_elements, sig_laws}
use Rattle.nc_cofactor.proofs.Terms.{has_terms, terms_once}
use Rattle.nc_cofactor.specs.Labels.{IsLabelIn}
use Rattle.nc_cofactor.specs.Laws.{LabelsExist, OneFirst}
use Rattle.nc_cofactor.specs.Sums.{IsSum}
use Rattle.nc_cofactor.specs.Terms.{HasTerms, LabelTerms}
use Rattle.nc_module.specs.Modules.{element_of}
use Rattle.nc_snapshot.specs.declared.outcome.Listed.{Listed}
use Rattle.nc_snapshot.specs.declared.outcome.Listed.TheVariants.{Claim, Entry as EntryOf, Syzygy as SyzygyOf}
use Rattle.nc_theory.specs.Labels.{label_at, labels_of, trace_label}
use Rattle.nc_theory.specs.States.{State, Syzygy}
use Rattle.std.proofs.Common.{List, None, Option, Some, [], ap, arith, inl, inr, length, refl, subst, sym, ℕ, ◌+◌, ◌-◌, ◌<◌, ◌∙◌, ◌∷◌, ◌≡◌}
use Rattle.std.proofs.lemmas.List.Elements.{All-from_recursion}
use Rattle.std.proofs.lemmas.Option.{slice_get_within}
use Rattle.std.specs.List.{AllByRecursion, slice_get}

module _ (s : Setting) where
  -- each monomial with its degree
  abbrev signed : Element → List (Term Sig)
  signed α = map_keys (sig_of (generator_weight s)) α

  signed_degrees : (α : Element) → AllByRecursion (λ t. HasDegree s t.key) (signed α)
  signed_degrees [] = tt
  signed_degrees (t ∷ α) = (refl, signed_degrees α)

  unsigned : (α : Element) → element_of (signed α) ≡ α
  unsigned [] = refl
  unsigned (t ∷ α) = ap (λ (β : Element). t ∷ β) (unsigned α)

  -- each element has a normal form
  pub sum_exists : 0 < s.prime → (α : Element) → (m : List (Term Sig)) × IsSum s α m
  sum_exists some α = (h.normal, sum)
    where
      h : HasNormal compare_sigs sig_laws s.prime some (signed α)
      h = has_normal compare_sigs sig_laws s.prime some (signed α)

      sum : IsSum s α h.normal
      sum = record {
        same = subst (λ (β : Element). SameSum same_monomial s.prime (element_of h.normal) β)
            (unsigned α) (same_elements s.prime some h.normal (signed α) h.same);
        descends = h.descends;
        residues =
            All-from_recursion (λ (t : Term Sig). t.coefficient < s.prime) h.normal h.residues;
        degrees =
            All-from_recursion (λ (t : Term Sig). HasDegree s t.key) h.normal
            (keys_kept compare_sigs sig_laws (HasDegree s) s.prime (signed α) h.normal
            (signed_degrees α) h.same h.descends h.residues);
      }

  -- and a number of terms
  pub terms_exist : 0 < s.prime → (α : Element) → (n : ℕ) × HasTerms s.prime α n
  terms_exist some α = let r = sum_exists some α in (length r.0, has_terms s α r.0 r.1)

some_residue : (p : ℕ) → IsPrime p → 0 < p
some_residue p prime = omega (arith, (field_from_prime p prime).above_one)

pub labels_exist : LabelsExist
labels_exist s prime run listed α is =
    let r = sum_exists s (some_residue s.prime prime) α in (
      r.0,
      record {
        label = α;
        is = is;
        same = r.1.same;
        descends = r.1.descends;
        residues = r.1.residues;
        degrees = r.1.degrees;
      },
    )

-- ---- the first label with too many terms

module _ (s : Setting) (some : 0 < s.prime) (run : State) where
  once : (listed : Listed) (n n' : ℕ) → LabelTerms s.prime run listed n
      → LabelTerms s.prime run listed n' → n ≡ n'
  once listed n n' (α, is, h) (β, is', h') =
      terms_once s.prime α n n' h
      (subst (λ (γ : Element). HasTerms s.prime γ n') (label_once s.prime run listed β α is' is) h')

  of_label : (listed : Listed) (α : Element) → IsLabelIn s.prime run listed α → (n : ℕ)
      × LabelTerms s.prime run listed n
  of_label listed α is = let t = terms_exist s some α in (t.0, (α, is, t.1))

  has_dec : (listed : Listed) → Decided ((n : ℕ) × LabelTerms s.prime run listed n)
  has_dec (EntryOf k) = go (lt_dec 0 k) (lt_dec k (length run.entries + 1))
    where
      go : Decided (0 < k) → Decided (k < length run.entries + 1)
          → Decided ((n : ℕ) × LabelTerms s.prime run (EntryOf k) n)
      go (inl l) (inl b) =
          inl (of_label (EntryOf k) (label_at (labels_of s.prime run.entries) k)
          (omega (arith, l), omega (arith, b), refl))
      go (inr none) o = inr (λ (n, (α, is, h)). none (omega (arith, is.0)))
      go (inl l) (inr none) = inr (λ (n, (α, is, h)). none (omega (arith, is.1)))
  has_dec (SyzygyOf k) = go (lt_dec 0 k) (slice_get run.syzygies (k - 1)) refl
    where
      go : Decided (0 < k) → (o : Option Syzygy) → slice_get run.syzygies (k - 1) ≡ o
          → Decided ((n : ℕ) × LabelTerms s.prime run (SyzygyOf k) n)
      go (inr none) o e = inr (λ (n, (α, (t, (y, l, at, same), is), h)). none (omega (arith, l)))
      go (inl l) None e =
          inr (λ (n, (α, (t, (y, one, at, same), is), h)). let no : None ≡ Some y = sym e ∙ at in
          cc)
      go (inl l) (Some y) e =
          inl (of_label (SyzygyOf k)
          (trace_label s.prime (labels_of s.prime run.entries) y.trace) (
            y.trace,
            (y, omega (arith, l), e, refl),
            refl,
          ))
  has_dec Claim = inr (λ (n, (α, is, h)). is)

  entry_below : (k n : ℕ) → LabelTerms s.prime run (EntryOf k) n → k < length run.entries + 1
  entry_below k n (α, is, h) = omega (arith, is.1)

  syzygy_below : (k n : ℕ) → LabelTerms s.prime run (SyzygyOf k) n → k < length run.syzygies + 1
  syzygy_below k n (α, (t, (y, l, at, same), is), h) =
      omega (arith, slice_get_within run.syzygies (k - 1) y at)

pub one_first : OneFirst
one_first s prime run limit =
    let some : 0 < s.prime =
    some_residue s.prime prime in (
      first_or_within (LabelTerms s.prime run) limit (once s some run) (has_dec s some run)
          (length run.entries + 1)
          (length run.syzygies + 1) (entry_below s some run) (syzygy_below s some run),
      not_both (LabelTerms s.prime run) limit,
      one_alone (LabelTerms s.prime run) limit (once s some run),
    )
