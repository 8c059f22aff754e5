-- What is spent on the parts of a line, part by part.
use Rattle.nc_algebra.specs.Certificates.{Line, Part}
use Rattle.nc_cert.specs.Spent.{IsBeyond}
use Rattle.std.proofs.Common.{ap, arith, drop, get_or, length, suc, sum_by, sym, take, ℕ, ◌+◌, ◌++◌, ◌<◌, ◌∙◌, ◌∷◌, ◌≡◌, ◌≤◌}
use Rattle.std.proofs.Math.Seq.{drop-cons}
use Rattle.std.proofs.lemmas.List.{take-append-drop}
use Rattle.std.proofs.lemmas.List.Sums.{sum_by_more}

module _ (charge : Part → ℕ) (line : Line) (i : ℕ) (part : Part) (within : i < length line)
    (at : part ≡ get_or line i part) where
  -- one part more
  pub spent_more : sum_by charge (take (i + 1) line) ≡ sum_by charge (take i line) + charge part
  spent_more =
      sum_by_more charge line i part within ∙ ap (λ p. sum_by charge (take i line) + charge p)
      (sym at)

  -- a part that passes the limit
  pub beyond_here : (limit spent old : ℕ) → old ≡ spent + sum_by charge (take i line) → old ≤ limit
      → limit < old + charge part → IsBeyond limit spent charge line (old + charge part)
  beyond_here limit spent old is before beyond = record {
    before = take i line;
    first = part;
    after = drop (suc i) line;
    parts = sym (take-append-drop i line)
        ∙ ap (λ (l : Line). take i line ++ l) (drop-cons line i part within
        ∙ ap (λ (p : Part). p ∷ drop (suc i) line) (sym at));
    within = omega (arith, is, before);
    beyond = beyond;
    charge_is = ap (λ n. n + charge part) is;
  }
