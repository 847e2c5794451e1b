-- Bytes that readers and writers know.
use Rattle.std.proofs.Common.{◌≡◌, ℕ, ◌+◌, ◌≤◌, List, [], ◌++◌, length, take, drop, sym, ap, ◌∙◌, arith, append_assoc}
use Rattle.std.proofs.lemmas.List.{append-nil, take-append-drop, take-take, drop-take, take_at, drop_at, length-take-le, take-append-le}
use Rattle.std.specs.Prelude.{Option, Some, None}
use Rattle.std.specs.Io.KnownBytes.{Appends, Consumes}

pub appends_none : (old : Option (List ℕ)) → Appends old old []
appends_none None = tt
appends_none (Some xs) = sym (append-nil xs)

pub appends_twice : (old between new : Option (List ℕ)) (xs ys : List ℕ) → Appends old between xs
    → Appends between new ys → Appends old new (xs ++ ys)
appends_twice None between new xs ys first second = tt
appends_twice (Some olds) (Some betweens) (Some news) xs ys first second =
    second ∙ ap (λ zs. zs ++ ys) first ∙ append_assoc olds xs ys
appends_twice (Some olds) (Some betweens) None xs ys first second = second
appends_twice (Some olds) None new xs ys first second = absurd first

pub consumes_twice : (old between new : Option (List ℕ)) (xs ys : List ℕ) → Consumes old between xs
    → Consumes between new ys → Consumes old new (xs ++ ys)
consumes_twice None between new xs ys first second = tt
consumes_twice (Some olds) (Some betweens) (Some news) xs ys first second =
    first ∙ ap (λ zs. xs ++ zs) second ∙ sym (append_assoc xs ys news)
consumes_twice (Some olds) (Some betweens) None xs ys first second = second
consumes_twice (Some olds) None new xs ys first second = absurd first

-- the first i bytes, and the next few
pub take_plus : (i count : ℕ) (bytes : List ℕ) → take (i + count) bytes ≡ take i bytes ++ take count (drop i bytes)
take_plus i count bytes =
    let front = take (i + count) bytes in
    sym (take-append-drop i front) ∙ ap (λ xs. xs ++ drop i front) (take-take i (i + count) bytes (omega arith))
    ∙ ap (λ xs. take i bytes ++ xs) (drop-take i count bytes)

-- the same of a list whose first i bytes are known
pub take_plus_of : (i count : ℕ) (xs ys : List ℕ) → length xs ≡ i → take (i + count) (xs ++ ys) ≡ xs ++ take count ys
take_plus_of i count xs ys few =
    take_plus i count (xs ++ ys) ∙ ap (λ zs. zs ++ take count (drop i (xs ++ ys))) (take_at xs ys i few)
    ∙ ap (λ zs. xs ++ take count zs) (drop_at xs ys i few)

-- what a read puts after the first i bytes
pub read_more : (i count most : ℕ) (bytes buffer after more : List ℕ) → i ≤ length bytes → count ≤ length buffer
    → i + count ≤ most
    → take (i + count) (take most ((take i bytes ++ (buffer ++ after)) ++ more)) ≡ take i bytes ++ take count buffer
read_more i count most bytes buffer after more some few room =
    take-take (i + count) most _ room
    ∙ ap (take (i + count)) (append_assoc (take i bytes) (buffer ++ after) more)
    ∙ take_plus_of i count (take i bytes) ((buffer ++ after) ++ more) (length-take-le i bytes some)
    ∙ ap (λ zs. take i bytes ++ zs) (ap (take count) (append_assoc buffer after more) ∙ take-append-le count buffer
    (after ++ more) few)
