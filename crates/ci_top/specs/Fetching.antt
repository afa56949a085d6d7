-- Files that are wanted, and those of them that were fetched.
use Rattle.std.specs.Prelude.{◌≡◌, ℕ, ◌+◌, ◌≤◌, List, [], ◌∷◌, ◌++◌, length, map, Option}
use Rattle.ci_outside.specs.Shelf.{Files, HasFile}

-- a file that is wanted, by its name, and the most bytes that it may have
pub record Wanted : Type 0 where
  pub name : List ℕ
  pub limit : ℕ

-- the files of these names, each of which may have so many bytes
abbrev pub each_within : ℕ → List (List ℕ) → List Wanted
each_within limit names = map (λ name. record { name = name; limit = limit }) names

-- these files have these contents, if the shelf tells, and each is within its limit
abbrev pub Fetched : Option Files → List Wanted → List (List ℕ) → Type 0
Fetched files [] [] = Unit {0}
Fetched files (file ∷ wanted) (content ∷ contents) = HasFile files file.name content × (length content ≤ file.limit) × Fetched files wanted contents
Fetched files [] (content ∷ contents) = ⊥
Fetched files (file ∷ wanted) [] = ⊥

-- of the wanted files, the one of this number, from 1, is the next to be fetched: those before it were fetched
pub record IsNext (files : Option Files) (wanted : List Wanted) (number : ℕ) (file : Wanted) : Type 0 where
  pub before : List Wanted
  pub after : List Wanted
  pub wanted_are : wanted ≡ before ++ file ∷ after
  pub number_is : number ≡ length before + 1
  pub contents : List (List ℕ)
  pub fetched : Fetched files before contents
