-- Lists in chunks.
use Rattle.std.proofs.Common.{◌≡◌, ℕ, ◌+◌, ◌*◌, ◌/◌, ◌%◌, ◌<◌, ◌≤◌, List, [], ◌∷◌, ◌++◌, length, get_or, map, set, take, refl, ap, sym, ◌∙◌, arith, length-append, append_assoc, zero, suc, inl, inr, ◌⊎◌, Result, Ok, Err}
use Rattle.std.specs.Result.{OnErr, OnOk}
use Rattle.std.proofs.lemmas.Bool.{cases_lt}
use Rattle.std.specs.List.{flat_map}
use Rattle.std.proofs.lemmas.List.{append-nil, get_or_read}
use Rattle.std.proofs.lemmas.List.Concat.{get_or-flat_map}
use Rattle.nc_chunks.specs.Chunking.{HasRoom, IsChunked}

-- the chunks before the one with this number are full
pub length-before : {X T : Type 0} (f : X → List T) (xs : List X) (i : ℕ) → IsChunked f xs
    → i < length xs → length (flat_map f (take i xs)) ≡ 256 * i
length-before f [] i s l = absurd (omega arith)
length-before f (x ∷ xs) zero s l = refl
length-before f (x ∷ []) (suc i) s l = absurd (omega arith)
length-before f (x ∷ y ∷ ys) (suc i) s l =
    omega (
      arith,
      length-append (f x) (flat_map f (take i (y ∷ ys))),
      length-before f (y ∷ ys) i s.1 (omega arith),
      s.0,
    )

-- there is an item j in chunk i
pub record StandsAt {X T : Type 0} (f : X → List T) (xs : List X) (i j : ℕ) : Type 0 where
  pub chunk : i < length xs
  pub item : (e : X) → j < length (f (get_or xs i e))

-- an item of the whole list is in the chunk that its place tells
pub stands_at : {X T : Type 0} (f : X → List T) (xs : List X) (i j : ℕ) → IsChunked f xs → j < 256
    → 256 * i + j < length (flat_map f xs) → StandsAt f xs i j
stands_at f [] i j s small l = absurd (omega arith)
stands_at f (x ∷ []) zero j s small l =
    record { chunk = omega arith; item = λ e. omega (arith, ap length (append-nil (f x))) }
stands_at f (x ∷ []) (suc i) j s small l = absurd (omega (arith, ap length (append-nil (f x))))
stands_at f (x ∷ y ∷ ys) zero j s small l =
    record { chunk = omega arith; item = λ e. omega (arith, s.0) }
stands_at f (x ∷ y ∷ ys) (suc i) j s small l =
    let deeper =
    stands_at f (y ∷ ys) i j s.1 small
    (omega (arith, length-append (f x) (flat_map f (y ∷ ys)), s.0)) in
    record { chunk = omega (arith, deeper.chunk); item = deeper.item }

pub stands_there : {X T : Type 0} (f : X → List T) (xs : List X) (n : ℕ) → IsChunked f xs
    → n < length (flat_map f xs) → StandsAt f xs (n / 256) (n % 256)
stands_there f xs n s l = stands_at f xs (n / 256) (n % 256) s (omega arith) (omega arith)

pub found : {X T : Type 0} (f : X → List T) (xs : List X) (n : ℕ) (e : X) (d : T) → IsChunked f xs
    → n < length (flat_map f xs) → get_or (flat_map f xs) n d ≡ get_or (f (get_or xs (n / 256) e))
    (n % 256) d
found f xs n e d s l =
    let there = stands_there f xs n s l in
    let before : length (flat_map f (take (n / 256) xs)) + n % 256 ≡ n =
    omega (arith, length-before f xs (n / 256) s there.chunk) in
    ap (λ k. get_or (flat_map f xs) k d) (sym before) ∙ get_or-flat_map f xs (n / 256) (n % 256) e d
    there.chunk (there.item e)

-- a full chunk in front
pub chunked-cons : {X T : Type 0} (f : X → List T) (x : X) (xs : List X) → length (f x) ≡ 256
    → IsChunked f xs → IsChunked f (x ∷ xs)
chunked-cons f x [] full s = omega arith
chunked-cons f x (y ∷ ys) full s = (full, s)

-- another last chunk, with more items
pub record LastSet {X T : Type 0} (f : X → List T) (xs : List X) (i : ℕ) (y : X)
    (more : List T) : Type 0 where
  pub items : flat_map f (set xs i y) ≡ flat_map f xs ++ more
  pub chunked : IsChunked f (set xs i y)

pub last_set : {X T : Type 0} (f : X → List T) (xs : List X) (i : ℕ) (y : X) (more : List T)
    → IsChunked f xs → i + 1 ≡ length xs → ((e : X) → f y ≡ f (get_or xs i e) ++ more)
    → length (f y) ≤ 256 → LastSet f xs i y more
last_set f [] i y more s last same small = absurd (omega arith)
last_set f (x ∷ []) zero y more s last same small =
    record {
      items = append-nil (f y) ∙ same x ∙ ap (λ l. l ++ more) (sym (append-nil (f x)));
      chunked = small;
    }
last_set f (x ∷ []) (suc i) y more s last same small = absurd (omega arith)
last_set f (x ∷ z ∷ zs) zero y more s last same small = absurd (omega arith)
last_set f (x ∷ z ∷ zs) (suc i) y more s last same small =
    let deeper = last_set f (z ∷ zs) i y more s.1 (omega arith) same small in
    record {
      items = ap (λ l. f x ++ l) deeper.items ∙ sym (append_assoc (f x) (flat_map f (z ∷ zs)) more);
      chunked = chunked-cons f x (set (z ∷ zs) i y) s.0 deeper.chunked;
    }

pub room-cons : {X T : Type 0} (f : X → List T) (x : X) (xs : List X) → HasRoom f xs
    → (i : ℕ) (e : X) → i + 1 ≡ length (x ∷ xs) → length (f (get_or (x ∷ xs) i e)) < 256
room-cons f x xs r zero e last = absurd (omega (arith, r.some))
room-cons f x xs r (suc i) e last = r.room i e (omega arith)

only : {X T : Type 0} (f : X → List T) (x : X) (i : ℕ) (e : X) → i + 1 ≡ 1 → length (f x) < 256
    → length (f (get_or (x ∷ []) i e)) < 256
only f x zero e last less = less
only f x (suc i) e last less = absurd (omega arith)

-- an empty chunk behind full ones
pub chunked-push : {X T : Type 0} (f : X → List T) (xs : List X) (y : X) → IsChunked f xs
    → ¬ (HasRoom f xs) → f y ≡ [] → IsChunked f (xs ++ y ∷ [])
chunked-push f [] y s full none = omega (arith, ap length none)
chunked-push f (x ∷ []) y s full none = go (cases_lt (length (f x)) 256)
  where
    go : (length (f x) < 256) ⊎ (256 ≤ length (f x)) → IsChunked f (x ∷ y ∷ [])
    go (inl less) =
        absurd (full (record { some = omega arith; room = λ i e last. only f x i e last less }))
    go (inr more) = (omega arith, omega (arith, ap length none))
chunked-push f (x ∷ z ∷ zs) y s full none =
    chunked-cons f x ((z ∷ zs) ++ y ∷ []) s.0
    (chunked-push f (z ∷ zs) y s.1
    (λ r. full (record {
      some = omega arith;
      room = λ i e last. room-cons f x (z ∷ zs) r i e last;
    })) none)

-- an item behind the last one, or none
pub record Pushed {X T A E : Type 0} (f : X → List T) (xs ys : List X) (item : T)
    (r : Result A E) : Type 0 where
  pub chunked : IsChunked f ys
  pub added : OnOk r (flat_map f ys ≡ flat_map f xs ++ item ∷ [])
  pub kept : OnErr r (flat_map f ys ≡ flat_map f xs)

pub push_last : {X T A E : Type 0} (f : X → List T) (xs : List X) (i : ℕ) (z y : X) (item : T)
    (r : Result A E) → IsChunked f xs → HasRoom f xs → i + 1 ≡ length xs → z ≡ get_or xs i z
    → OnOk r (f y ≡ f z ++ item ∷ []) → OnErr r (f y ≡ f z) → Pushed f xs (set xs i y) item r
push_last f xs i z y item (Ok a) s room last read added kept =
    let there =
    λ (e : _). added ∙ ap (λ x. f x ++ item ∷ []) (get_or_read xs i z (omega arith) read e) in
    let it =
    last_set f xs i y (item ∷ []) s last there
    (omega (
      arith,
      ap length (there y),
      length-append (f (get_or xs i y)) (item ∷ []),
      room.room i y last,
    )) in
    record { chunked = it.chunked; added = it.items; kept = tt }
push_last f xs i z y item (Err b) s room last read added kept =
    let there = λ (e : _). kept ∙ ap f (get_or_read xs i z (omega arith) read e) in
    let it =
    last_set f xs i y [] s last (λ e. there e ∙ sym (append-nil (f (get_or xs i e))))
    (omega (arith, ap length (there y), room.room i y last)) in
    record { chunked = it.chunked; added = tt; kept = it.items ∙ append-nil (flat_map f xs) }

-- the same chunks at other places
pub record SameChunks {X T : Type 0} (f : X → List T) (xs ys : List X) : Type 0 where
  pub items : flat_map f ys ≡ flat_map f xs
  pub chunked : IsChunked f xs → IsChunked f ys

pub same_chunks : {X T : Type 0} (f : X → List T) (xs ys : List X) → map f ys ≡ map f xs
    → SameChunks f xs ys
same_chunks f [] [] same = record { items = refl; chunked = λ s. s }
same_chunks f [] (y ∷ ys) same = absurd (omega (arith, ap length same))
same_chunks f (x ∷ xs) [] same = absurd (omega (arith, ap length same))
same_chunks f (x ∷ []) (y ∷ []) same =
    let first : f y ≡ f x = cc in
    record { items = ap (λ l. l ++ []) first; chunked = λ s. omega (arith, ap length first) }
same_chunks f (x ∷ []) (y ∷ z ∷ zs) same = absurd (omega (arith, ap length same))
same_chunks f (x ∷ w ∷ ws) (y ∷ []) same = absurd (omega (arith, ap length same))
same_chunks f (x ∷ w ∷ ws) (y ∷ z ∷ zs) same =
    let first : f y ≡ f x = cc in
    let others : map f (z ∷ zs) ≡ map f (w ∷ ws) = cc in
    let deeper = same_chunks f (w ∷ ws) (z ∷ zs) others in
    record {
      items = ap (λ l. l ++ flat_map f (z ∷ zs)) first ∙ ap (λ l. f x ++ l) deeper.items;
      chunked = λ s. (ap length first ∙ s.0, deeper.chunked s.1);
    }
