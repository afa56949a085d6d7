-- The first file of a name.
use Rattle.std.proofs.Common.{◌≡◌, ℕ, suc, ◌+◌, ◌<◌, List, [], ◌∷◌, true, false, cond, Option, Some, None, map, sym, ◌∙◌, ap, arith, length, get_or, drop, drop-cons}
use Rattle.std.proofs.lemmas.Bool.{cond-true, cond-false}
use Rattle.std.specs.Ordering.{nat_cmp}
use Rattle.std.specs.Cmp.Lexicographic.{slice_cmp}
use Rattle.std.specs.Str.{bytes_eq}
use Rattle.std.specs.FinMap.{get, find, get-from_entries}
use Rattle.std.proofs.lemmas.Cmp.{nat_list_cmp_total}
use Rattle.std.proofs.lemmas.Map.Text.{is_eq-slice_cmp}
use Rattle.ci_outside.specs.declared.files.NamedFile.{NamedFile}
use Rattle.ci_outside.specs.Memory.{by_name}

-- no file has the name where there is none
pub get-no_file : (name : List ℕ) → get (by_name []) name ≡ None
get-no_file name = get-from_entries nat_list_cmp_total [] name

-- the first file is the one asked for, or it is one of the others
pub get-by_name : (file : NamedFile) (files : List NamedFile) (name : List ℕ)
    → get (by_name (file ∷ files)) name ≡ cond (bytes_eq name file.name) (Some file.content) (get (by_name files) name)
get-by_name file files name =
    let entries : List NamedFile → List (List ℕ × List ℕ) = λ l. map (λ f. (f.name, f.content)) l in
    let others : Option (List ℕ) = find (slice_cmp nat_cmp) name (entries files) in
    get-from_entries nat_list_cmp_total (entries (file ∷ files)) name
    ∙ ap (λ b. cond b (Some file.content) others) (is_eq-slice_cmp name file.name)
    ∙ ap (λ o. cond (bytes_eq name file.name) (Some file.content) o) (sym (get-from_entries nat_list_cmp_total (entries files) name))

-- the files from an index on are the one there and those behind it
drop-here : (files : List NamedFile) (i : ℕ) (file : NamedFile) → i < length files → file ≡ get_or files i file → drop i files ≡ file ∷ drop (i + 1) files
drop-here files i file inside is =
    let one : suc i ≡ i + 1 = omega arith in
    drop-cons files i file inside ∙ ap (λ f. f ∷ drop (suc i) files) (sym is) ∙ ap (λ n. file ∷ drop n files) one

-- the file at an index has the name
pub get-here : (files : List NamedFile) (i : ℕ) (file : NamedFile) (name : List ℕ) → i < length files → file ≡ get_or files i file
    → bytes_eq name file.name ≡ true → get (by_name (drop i files)) name ≡ Some file.content
get-here files i file name inside is same =
    ap (λ l. get (by_name l) name) (drop-here files i file inside is) ∙ get-by_name file (drop (i + 1) files) name ∙ cond-true (bytes_eq name file.name) _ _ same

-- the file at an index has another name
pub get-later : (files : List NamedFile) (i : ℕ) (file : NamedFile) (name : List ℕ) → i < length files → file ≡ get_or files i file
    → bytes_eq name file.name ≡ false → get (by_name (drop i files)) name ≡ get (by_name (drop (i + 1) files)) name
get-later files i file name inside is other =
    ap (λ l. get (by_name l) name) (drop-here files i file inside is) ∙ get-by_name file (drop (i + 1) files) name ∙ cond-false (bytes_eq name file.name) _ _ other
