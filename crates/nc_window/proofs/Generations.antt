-- Rows keep generations of their own.
use Rattle.nc_window.specs.Rows.{LacksGeneration, row_with}
use Rattle.nc_window.specs.Rules.{HaveGenerations}
use Rattle.nc_window.specs.Windows.{Row}
use Rattle.std.proofs.Common.{List, [], sym, ℕ, ◌++◌, ◌<◌, ◌∷◌, ◌≢◌}
use Rattle.std.proofs.lemmas.List.Elements.{All-cons, All-head, All-tail}

module _ {T : Type 0} where
  abbrev Differs : ℕ → Row T → Type 0
  Differs g r = r.generation ≢ g

  lacks_in : (g : ℕ) (front rest : List (Row T)) (r : Row T) → LacksGeneration (front ++ rest) g
      → r.generation ≢ g → LacksGeneration (front ++ r ∷ rest) g
  lacks_in g [] rest r h d = All-cons (Differs g) r rest d h
  lacks_in g (x ∷ front) rest r h d =
      All-cons (Differs g) x (front ++ r ∷ rest) (All-head (Differs g) x (front ++ rest) h)
      (lacks_in g front rest r (All-tail (Differs g) x (front ++ rest) h) d)

  lacks_out : (g : ℕ) (front rest : List (Row T)) (r : Row T)
      → LacksGeneration (front ++ r ∷ rest) g → LacksGeneration (front ++ rest) g
  lacks_out g [] rest r h = All-tail (Differs g) r rest h
  lacks_out g (x ∷ front) rest r h =
      All-cons (Differs g) x (front ++ rest) (All-head (Differs g) x (front ++ r ∷ rest) h)
      (lacks_out g front rest r (All-tail (Differs g) x (front ++ r ∷ rest) h))

  pub generations_in : (front rest : List (Row T)) (r : Row T) → HaveGenerations (front ++ rest)
      → 0 < r.generation → LacksGeneration (front ++ rest) r.generation
      → HaveGenerations (front ++ r ∷ rest)
  generations_in [] rest r h l n = (l, n, h)
  generations_in (x ∷ front) rest r h l n =
      let d = All-head (Differs r.generation) x (front ++ rest) n in
      let m = All-tail (Differs r.generation) x (front ++ rest) n in (
        h.0,
        lacks_in x.generation front rest r h.1 (λ e. d (sym e)),
        generations_in front rest r h.2 l m,
      )

  pub generations_out : (front rest : List (Row T)) (r : Row T)
      → HaveGenerations (front ++ r ∷ rest) → HaveGenerations (front ++ rest)
  generations_out [] rest r h = h.2
  generations_out (x ∷ front) rest r h =
      (h.0, lacks_out x.generation front rest r h.1, generations_out front rest r h.2)

  -- a row gets a generation that no row has
  pub generations_with : (front rest : List (Row T)) (r : Row T) (g : ℕ) (x : T)
      → HaveGenerations (front ++ r ∷ rest) → 0 < g → LacksGeneration (front ++ r ∷ rest) g
      → HaveGenerations (front ++ row_with g x r ∷ rest)
  generations_with front rest r g x h l n =
      generations_in front rest (row_with g x r) (generations_out front rest r h) l
      (lacks_out g front rest r n)
