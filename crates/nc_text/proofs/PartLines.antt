-- Reading the lines `part` and `line`, one after the other, as a loop does.
-- `IsOnTheWay` is the invariant, with the lines that are done, their reaches, and the parts of the
-- line that was begun. A turn is `part_goes_on`, `line_goes_on`, `part_fails` or `line_fails`.
use Rattle.nc_algebra.specs.Certificates as certificates
use Rattle.nc_algebra.specs.Certificates.{Part, line_reach}
use Rattle.nc_algebra.specs.Settings.{NamedSetting}
use Rattle.nc_text.specs.Certificates.{part_lines}
use Rattle.nc_text.specs.Rows.{part_at}
use Rattle.nc_tokens.proofs.Repeated.{Read, bind_fails, no_front, passed_by, regroup, taken, with_first, with_front}
use Rattle.nc_tokens.specs.Gives.{FailsText}
use Rattle.nc_tokens.specs.Lines.{End, Line, Row, Written, a_line, at_line}
use Rattle.nc_tokens.specs.Wanted.{end_at, ◌>>=◌}
use Rattle.nc_tokens.specs.declared.fault.ReadFault.{ReadFault}
use Rattle.nc_tokens.specs.declared.fault.TextFault.{TextFault}
use Rattle.std.proofs.Common.{List, None, Ok, Result, Some, [], ap, codes, refl, subst, sym, ℕ, ◌++◌, ◌∙◌, ◌∷◌, ◌≡◌}

module _ (s : NamedSetting) where
  -- what follows a line `part`, a line `line`, and another line
  pub part_next : (reaches : List ℕ) (parts : List Part) (w : Written) (r : Row)
      → a_line (codes "part") w ≡ Some r
      → part_lines s reaches parts w
      ≡ (at_line r.number (part_at s reaches r.tokens) >>= λ part. part_lines s reaches
      (parts ++ part ∷ []) r.after)
  unfolding a_line part_lines
  part_next reaches parts (End n) r e = absurd cc
  part_next reaches parts (Line n clean ts after) r e =
      taken (codes "part") n clean ts after r
      (λ r. at_line r.number (part_at s reaches r.tokens) >>= λ part. part_lines s reaches
      (parts ++ part ∷ []) r.after) _ e

  pub line_next : (reaches : List ℕ) (parts : List Part) (w : Written) (r : Row)
      → a_line (codes "part") w ≡ None → a_line (codes "line") w ≡ Some r
      → part_lines s reaches parts w
      ≡ (at_line r.number (end_at r.tokens) >>= λ _. with_first
      (part_lines s (reaches ++ line_reach s.setting reaches parts ∷ []) [] r.after) parts)
  unfolding a_line part_lines
  line_next reaches parts (End n) r d e = absurd cc
  line_next reaches parts (Line n clean ts after) r d e =
      passed_by (codes "part") n clean ts after _ _ d
      ∙ taken (codes "line") n clean ts after r
      (λ r. at_line r.number (end_at r.tokens) >>= λ _. with_first
      (part_lines s (reaches ++ line_reach s.setting reaches parts ∷ []) [] r.after) parts) _
      e

  pub other_next : (reaches : List ℕ) (parts : List Part) (w : Written)
      → a_line (codes "part") w ≡ None → a_line (codes "line") w ≡ None
      → part_lines s reaches parts w ≡ Ok (parts ∷ [], w)
  unfolding a_line part_lines
  other_next reaches parts (End n) d e = refl
  other_next reaches parts (Line n clean ts after) d e =
      passed_by (codes "part") n clean ts after _ _ d ∙ passed_by (codes "line") n clean ts after _
      (Ok (parts ∷ [], Line n clean ts after)) e

  -- the lines so far, and what follows, are on the way to the whole
  pub record IsOnTheWay (lines : List certificates.Line) (reaches : List ℕ) (parts : List Part)
      (w : Written) (whole : Read certificates.Line) : Type 0 where
    pub same : with_front lines (part_lines s reaches parts w) ≡ whole

  pub begins : (w : Written) → IsOnTheWay [] [] [] w (part_lines s [] [] w)
  begins w = record { same = no_front (part_lines s [] [] w) }

  module _ (lines : List certificates.Line) (reaches : List ℕ) (parts : List Part) (w : Written)
      (whole : Read certificates.Line) (r : Row) where
    pub part_goes_on : (part : Part) → a_line (codes "part") w ≡ Some r
        → at_line r.number (part_at s reaches r.tokens) ≡ Ok part
        → IsOnTheWay lines reaches parts w whole
        → IsOnTheWay lines reaches (parts ++ part ∷ []) r.after whole
    part_goes_on part e k h =
        record {
          same = sym (ap (with_front lines) (part_next reaches parts w r e
              ∙ ap (λ (q : Result Part TextFault). q >>= λ part. part_lines s reaches
              (parts ++ part ∷ []) r.after) k)) ∙ h.same;
        }

    pub part_fails : (f : ReadFault) → a_line (codes "part") w ≡ Some r
        → FailsText f (at_line r.number (part_at s reaches r.tokens))
        → IsOnTheWay lines reaches parts w whole → FailsText f whole
    part_fails f e k h =
        subst (FailsText f) h.same (bind_fails f (part_lines s reaches parts w) _
        (subst (FailsText f) (sym (part_next reaches parts w r e))
        (bind_fails f (at_line r.number (part_at s reaches r.tokens)) _ k)))

    pub line_goes_on : (u : Unit {0}) → a_line (codes "part") w ≡ None
        → a_line (codes "line") w ≡ Some r → at_line r.number (end_at r.tokens) ≡ Ok u
        → IsOnTheWay lines reaches parts w whole
        → IsOnTheWay (lines ++ parts ∷ []) (reaches ++ line_reach s.setting reaches parts ∷ []) []
        r.after whole
    line_goes_on u d e k h = record {
      same =
          sym (ap (with_front lines) (line_next reaches parts w r d e
          ∙ ap (λ (q : Result (Unit {0}) TextFault). q >>= λ _. with_first
          (part_lines s (reaches ++ line_reach s.setting reaches parts ∷ []) [] r.after)
          parts) k)
          ∙ regroup lines parts (part_lines s (reaches ++ line_reach s.setting reaches parts ∷ [])
          [] r.after))
          ∙ h.same;
    }

    pub line_fails : (f : ReadFault) → a_line (codes "part") w ≡ None
        → a_line (codes "line") w ≡ Some r → FailsText f (at_line r.number (end_at r.tokens))
        → IsOnTheWay lines reaches parts w whole → FailsText f whole
    line_fails f d e k h =
        subst (FailsText f) h.same (bind_fails f (part_lines s reaches parts w) _
        (subst (FailsText f) (sym (line_next reaches parts w r d e))
        (bind_fails f (at_line r.number (end_at r.tokens)) _ k)))

  pub ends : (lines : List certificates.Line) (reaches : List ℕ) (parts : List Part) (w : Written)
      (whole : Read certificates.Line) → a_line (codes "part") w ≡ None
      → a_line (codes "line") w ≡ None → IsOnTheWay lines reaches parts w whole
      → whole ≡ Ok (lines ++ parts ∷ [], w)
  ends lines reaches parts w whole d e h =
      sym h.same ∙ ap (with_front lines) (other_next reaches parts w d e)
