-- The parts of lines keep the rule of certificates.
-- The reach of a line is at most the degree of its signature and 255 letters more, which is what a
-- word of a generator may have: a multiple adds the letters of its sides, and these are not more
-- than what they add to the degree (`line_part`, `line_short`).
use Rattle.nc_algebra.proofs.Generators.{generator_longest}
use Rattle.nc_algebra.proofs.Words.{length_at_most, weight-append}
use Rattle.nc_algebra.specs.Alphabets.{IsWordIn}
use Rattle.nc_algebra.specs.Certificates.{Factor, IsPart, Line, Part, item, line_reach, part_reach}
use Rattle.nc_algebra.specs.Elements.{IsGenerator, Setting, degree}
use Rattle.nc_algebra.specs.Monomials.{Monomial, times}
use Rattle.nc_algebra.specs.Settings.{IsSetting, NamedSetting}
use Rattle.nc_algebra.specs.Words.{Word, word_weight}
use Rattle.nc_member.specs.Lines.{line_of}
use Rattle.nc_theory.specs.States.{Entry}
use Rattle.std.proofs.Common.{List, Some, [], arith, length, ℕ, ◌+◌, ◌-◌, ◌<◌, ◌∷◌, ◌≡◌, ◌≤◌}
use Rattle.std.specs.List.{AllByRecursion, slice_get}

-- entry j is listed, and its multiple has at most the degree d
pub record IsLight (s : Setting) (entries : List Entry) (d : ℕ) (u : Word) (j : ℕ) (v : Word) : Type
    0 where
  pub entry : Entry
  pub at : slice_get entries (j - 1) ≡ Some entry
  pub light : degree s (times u entry.signature v) ≤ d

-- the line of entry j is there, and does not reach far
pub record IsReached (s : Setting) (entries : List Entry) (needed : List ℕ) (reaches : List ℕ)
    (j : ℕ) : Type 0 where
  pub some : 1 ≤ line_of needed j
  pub within : line_of needed j ≤ length reaches
  pub short : (e : Entry) → slice_get entries (j - 1) ≡ Some e
      → item 0 reaches (line_of needed j) ≤ degree s e.signature + 255

-- a part of a line that reaches at most so far
pub record IsShort (s : NamedSetting) (reaches : List ℕ) (n : ℕ) (part : Part) : Type 0 where
  pub is : IsPart s reaches part
  pub short : part_reach s.setting reaches part ≤ n

pub degree_times : (s : Setting) (u : Word) (σ : Monomial) (v : Word)
    → degree s (times u σ v) ≡ word_weight u + degree s σ + word_weight v
degree_times s u σ v = omega (arith, weight-append u σ.left, weight-append σ.right v)

-- the reach of a line is that of some part
pub line_short : (s : Setting) (reaches : List ℕ) (n : ℕ) (line : Line)
    → AllByRecursion (λ part. part_reach s reaches part ≤ n) line → line_reach s reaches line ≤ n
unfolding line_reach
line_short s reaches n [] h = omega arith
line_short s reaches n (part ∷ line) h = omega (arith, h.0, line_short s reaches n line h.1)

module _ (s : NamedSetting) (is : IsSetting s) where
  -- a generator as a part
  pub generator_part : (reaches : List ℕ) (d i : ℕ) → 1 < s.setting.prime → IsGenerator s.setting i
      → d ≤ 80000 → IsShort s reaches (d + 255)
      (record { coefficient = 1; left = []; of = Factor.a_generator i; right = [] })
  generator_part reaches d i one g low =
      record {
        is = record {
          residue = one;
          factor = g;
          left = λ k x h. absurd (omega (arith, h));
          right = λ k x h. absurd (omega (arith, h));
          short = omega (arith, generator_longest s i is g);
        };
        short = omega (arith, generator_longest s i is g);
      }

  module _ (entries : List Entry) (needed reaches : List ℕ) (d : ℕ) (low : d ≤ 80000) where
    -- a multiple of a line
    pub line_part : (c : ℕ) (u : Word) (j : ℕ) (v : Word) → c < s.setting.prime
        → IsWordIn s.alphabet u → IsWordIn s.alphabet v → IsLight s.setting entries d u j v
        → IsReached s.setting entries needed reaches j
        → IsShort s reaches (d + 255) (record {
          coefficient = c;
          left = u;
          of = Factor.a_line (line_of needed j);
          right = v;
        })
    line_part c u j v small left right light reached =
        record {
          is = record {
            residue = small;
            factor = (reached.some, reached.within);
            left = left;
            right = right;
            short = omega (arith, far, low);
          };
          short = far;
        }
      where
        far : length u + item 0 reaches (line_of needed j) + length v ≤ d + 255
        far = omega (
          arith,
          length_at_most u,
          length_at_most v,
          reached.short light.entry light.at,
          light.light,
          degree_times s.setting u light.entry.signature v,
        )
