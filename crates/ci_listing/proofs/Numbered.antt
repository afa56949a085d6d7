-- Texts of members with their numbers, put one after another.
use Rattle.std.proofs.Common.{◌≡◌, ℕ, ◌+◌, ◌<◌, List, [], ◌∷◌, ◌++◌, length, take, drop, get_or, sym, ◌∙◌, ap, append_assoc, append-nil, arith, length-take-le}
use Rattle.std.proofs.lemmas.List.{take_more, drop_more, take-append-drop}
use Rattle.ci_listing.specs.Listing.{numbered}

numbered-append : {A : Type 0} (f : ℕ → A → List ℕ) (n : ℕ) (xs ys : List A) → numbered f n (xs ++ ys) ≡ numbered f n xs ++ numbered f (n + length xs) ys
numbered-append f n [] ys = ap (λ m. numbered f m ys) (omega arith)
numbered-append f n (x ∷ xs) ys =
    ap (λ l. f n x ++ l) (numbered-append f (n + 1) xs ys ∙ ap (λ m. numbered f (n + 1) xs ++ numbered f m ys) (omega arith))
    ∙ sym (append_assoc (f n x) (numbered f (n + 1) xs) (numbered f (n + length (x ∷ xs)) ys))

-- a longer front
pub numbered-next : {A : Type 0} (f : ℕ → A → List ℕ) (xs : List A) (i : ℕ) (d : A) → i < length xs
    → numbered f 0 (take (i + 1) xs) ≡ numbered f 0 (take i xs) ++ f i (get_or xs i d)
numbered-next f xs i d within =
    let x = get_or xs i d in
    ap (numbered f 0) (take_more xs i d within) ∙ numbered-append f 0 (take i xs) (x ∷ [])
    ∙ ap (λ n. numbered f 0 (take i xs) ++ (f n x ++ [])) (omega (arith, length-take-le i xs (omega arith)))
    ∙ ap (λ l. numbered f 0 (take i xs) ++ l) (append-nil (f i x))

-- all, around one of them
pub numbered-around : {A : Type 0} (f : ℕ → A → List ℕ) (xs : List A) (i : ℕ) (d : A) → i < length xs
    → numbered f 0 xs ≡ numbered f 0 (take i xs) ++ (f i (get_or xs i d) ++ numbered f (i + 1) (drop (i + 1) xs))
numbered-around f xs i d within =
    ap (numbered f 0) (sym (take-append-drop i xs)) ∙ numbered-append f 0 (take i xs) (drop i xs)
    ∙ ap (λ n. numbered f 0 (take i xs) ++ numbered f n (drop i xs)) (omega (arith, length-take-le i xs (omega arith)))
    ∙ ap (λ l. numbered f 0 (take i xs) ++ numbered f i l) (drop_more xs i d within)

-- the same for a member that was read
pub next : {A : Type 0} (f : ℕ → A → List ℕ) (xs : List A) (i : ℕ) (x : A) → x ≡ get_or xs i x → i < length xs
    → numbered f 0 (take (i + 1) xs) ≡ numbered f 0 (take i xs) ++ f i x
next f xs i x x_is within = numbered-next f xs i x within ∙ ap (λ y. numbered f 0 (take i xs) ++ f i y) (sym x_is)

pub around : {A : Type 0} (f : ℕ → A → List ℕ) (xs : List A) (i : ℕ) (x : A) → x ≡ get_or xs i x → i < length xs
    → numbered f 0 xs ≡ numbered f 0 (take i xs) ++ (f i x ++ numbered f (i + 1) (drop (i + 1) xs))
around f xs i x x_is within =
    numbered-around f xs i x within ∙ ap (λ y. numbered f 0 (take i xs) ++ (f i y ++ numbered f (i + 1) (drop (i + 1) xs))) (sym x_is)
