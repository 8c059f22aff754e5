-- A desk whose window is freed, and that then handles signatures alone, stays as it should be.
use Rattle.nc_algebra.proofs.Orders.{nat_order}
use Rattle.nc_algebra.specs.Primes.{IsField}
use Rattle.nc_algebra.specs.Problems.{NamedProblem}
use Rattle.nc_theory.proofs.Windows.{alone_law, emptied_law}
use Rattle.nc_theory.specs.Desk.{Desk, Drives, IsCounted, Node, after_freed, emptied, freed_from}
use Rattle.nc_theory.specs.Runs.{SequentialRun}
use Rattle.nc_theory.specs.UntracedDesks.{IsSoundDesk}
use Rattle.std.proofs.Common.{Bool, List, [], ap, arith, cond, inl, inr, length, refl, ℕ, ◌+◌, ◌<◌, ◌∷◌, ◌≡◌, ◌≤◌, ◌⊎◌, suc, true, false}
use Rattle.std.specs.Option.{is_some}

-- what the freed nodes leave alone
freed_none : (ns : List Node) (d : Desk) → d.window ≡ ns → (freed_from ns d).window ≡ []
freed_none [] d e = e
freed_none (n ∷ ns) d e = freed_none ns (after_freed d n ns) refl

freed_counts : (ns : List Node) (d : Desk) → d.window ≡ ns → IsCounted d → IsCounted (freed_from ns d)
freed_counts [] d e c = c
freed_counts (n ∷ ns) d e c =
    freed_counts ns (after_freed d n ns) refl (
      omega (arith, c.0, ap length e, one (is_some n.work)),
      c.1,
    )
  where
    one : (b : Bool) → cond b 1 0 + cond b 0 1 ≡ 1
    one true = refl
    one false = refl

module _ (P : NamedProblem) (field : IsField P.problem.setting.prime) (capacity : ℕ) where
  freed_runs : (ns : List Node) (d : Desk)
      → SequentialRun P.problem d.handled d.state d.last × (d.handled ≤ P.problem.steps)
      → SequentialRun P.problem (freed_from ns d).handled (freed_from ns d).state
      (freed_from ns d).last × ((freed_from ns d).handled ≤ P.problem.steps)
  freed_runs [] d r = r
  freed_runs (n ∷ ns) d r = freed_runs ns (after_freed d n ns) r

  pub emptied_sound : (d : Desk) → IsSoundDesk P capacity d → IsSoundDesk P capacity (emptied d)
      × ((emptied d).window ≡ [])
  emptied_sound d sound =
      let r = freed_runs d.window d (sound.runs, sound.limited) in (
        record {
          runs = r.0;
          limited = r.1;
          window = emptied_law P capacity field d sound.window;
          counted = freed_counts d.window d refl sound.counted;
        },
        freed_none d.window d refl,
      )

  pub drives_sound : {d d' : Desk} → Drives P.problem d d' → IsSoundDesk P capacity d
      → d.window ≡ [] → IsSoundDesk P capacity d' × (d'.window ≡ [])
  drives_sound Drives.rests sound none = (sound, none)
  drives_sound (Drives.handles_alone {d = d} f τ next o handles more) sound none =
      drives_sound more (record {
        runs = SequentialRun.handled sound.runs τ next o handles;
        limited = below (nat_order d.handled P.problem.steps);
        window = alone_law P capacity field d none sound.window τ o;
        counted = (sound.counted.0, omega (arith, sound.counted.1));
      }) none
    where
      below : (d.handled < P.problem.steps)
          ⊎ ((d.handled ≡ P.problem.steps) ⊎ (P.problem.steps < d.handled))
          → suc d.handled ≤ P.problem.steps
      below (inl l) = omega (arith, l)
      below (inr (inl e)) = absurd (f (inr e))
      below (inr (inr l)) = absurd (omega (arith, l, sound.limited))
