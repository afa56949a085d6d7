-- One more row in a table.
use Rattle.std.proofs.Common.{◌≡◌, ◌∙◌, ℕ, ◌+◌, Bool, true, false, not, ◌&&◌, cond, List, [], ◌∷◌, ◌++◌, map, length, position, Option, Some, None, refl, sym, ap, arith, sum_by}
use Rattle.std.proofs.lemmas.List.{map_push, length-map}
use Rattle.std.proofs.lemmas.List.Sums.{sum_by-append}
use Rattle.std.specs.Option.{option_or}
use Rattle.ci_names.specs.Declarations as declarations
use Rattle.ci_names.specs.Declarations.{Function, Variable, is_public, is_of_file, is_array, size_of}
use Rattle.ci_names.specs.Scopes.{variable_behind}
use Rattle.ci_names.proofs.Meant.{each_append}
use Rattle.ci_scopes.specs.declared.called.Heading.{Heading}
use Rattle.ci_scopes.specs.declared.meaning.Meaning.{Meaning}
use Rattle.ci_scopes.specs.declared.functions.Functions.{Functions}
use Rattle.ci_scopes.specs.declared.functions.FunctionAt.{FunctionAt}
use Rattle.ci_scopes.specs.declared.variables.Variables.{Variables}
use Rattle.ci_scopes.specs.declared.variables.VariableAt.{VariableAt}
use Rattle.ci_scopes.specs.Listed.{function_at, variable_at}
use Rattle.ci_scopes.specs.Table.{Noted, is_name, number_of, noted}
use Rattle.ci_scopes.specs.Values.{heading_of, meaning_of}
use Rattle.ci_scopes.specs.Stands.{IsFunctions, IsVariables, is_own_private, is_own_variable, is_global}
use Rattle.ci_scopes.proofs.Tables.{number_of-noted, or_none}
use Rattle.ci_scopes.proofs.Firsts.{position-push}

-- a table where a name is noted if b
pub note_step : (es es' : List Noted) (f g : Option ℕ) (name n : List ℕ) (k : ℕ) (b : Bool) (o : Option ℕ) → es' ≡ cond b (noted es f name k) es → number_of es g n ≡ o →
    number_of es' g n ≡ option_or o (cond (b && is_name g n (f, name, k)) (Some k) None)
note_step es es' f g name n k true o e h = ap (λ t. number_of t g n) e ∙ number_of-noted es f g name n k ∙ ap (λ x. option_or x (cond (is_name g n (f, name, k)) (Some k) None)) h
note_step es es' f g name n k false o e h = ap (λ t. number_of t g n) e ∙ h ∙ or_none o

-- the first of those that pass a test, where the name is noted if the last one passes it
pub noted_first : {X : Type 0} (p : X → Bool) (xs : List X) (x : X) (es es' : List Noted) (f g : Option ℕ) (name n : List ℕ) (k : ℕ) (b : Bool) →
    k ≡ length xs → p x ≡ (b && is_name g n (f, name, k)) → es' ≡ cond b (noted es f name k) es → number_of es g n ≡ position p xs → number_of es' g n ≡ position p (xs ++ x ∷ [])
noted_first p xs x es es' f g name n k b count passes marked h =
    note_step es es' f g name n k b (position p xs) marked h
    ∙ ap (λ c. option_or (position p xs) (cond c (Some k) None)) (sym passes)
    ∙ ap (λ i. option_or (position p xs) (cond (p x) (Some i) None)) count
    ∙ sym (position-push p xs x)

-- a function more
pub functions-push : (old new : Functions) (fs : List Function) (f : FunctionAt) (h : Heading) (name : List ℕ) (k : ℕ) →
    name ≡ f.name.now → k ≡ length old.rows.items →
    new.rows.items ≡ old.rows.items ++ f ∷ [] → new.headings.items ≡ old.headings.items ++ h ∷ [] → heading_of h ≡ declarations.heading_of (function_at f) →
    new.publics ≡ cond (not f.private) (noted old.publics None name k) old.publics → new.own ≡ noted old.own (Some f.file) name k → new.privates ≡ cond f.private (noted old.privates (Some f.file) name k) old.privates →
    IsFunctions old fs → IsFunctions new (fs ++ function_at f ∷ [])
functions-push old new fs f h name k named counted row heading same publics own privates is =
    let count : k ≡ length fs = counted ∙ sym (length-map old.rows.items function_at) ∙ ap length is.rows in
    let x : Function = function_at f in
    record {
      rows = ap (map function_at) row ∙ map_push function_at old.rows.items f ∙ ap (λ r. r ++ x ∷ []) is.rows;
      headings = ap (map heading_of) heading ∙ map_push heading_of old.headings.items h ∙ (λ i. is.headings i ++ same i ∷ []) ∙ sym (map_push declarations.heading_of fs x);
      publics = λ n. noted_first (is_public n) fs x old.publics new.publics None None x.name n k (not f.private) count refl (publics ∙ ap (λ m. cond (not f.private) (noted old.publics None m k) old.publics) named) (is.publics n);
      own = λ file n. noted_first (is_of_file file n) fs x old.own new.own (Some x.file) (Some file) x.name n k true count refl (own ∙ ap (λ m. noted old.own (Some x.file) m k) named) (is.own file n);
      privates = λ file n. noted_first (is_own_private file n) fs x old.privates new.privates (Some x.file) (Some file) x.name n k f.private count refl (privates ∙ ap (λ m. cond f.private (noted old.privates (Some x.file) m k) old.privates) named) (is.privates file n);
    }

-- a variable more
pub variables-push : (old new : Variables) (vs : List Variable) (v : VariableAt) (m : Meaning) (name : List ℕ) (k : ℕ) →
    name ≡ v.name.now → k ≡ length old.rows.items →
    new.rows.items ≡ old.rows.items ++ v ∷ [] → new.meanings.items ≡ old.meanings.items ++ m ∷ [] → meaning_of m ≡ variable_behind vs (variable_at v) →
    new.globals ≡ cond v.global (noted old.globals None name k) old.globals → new.own ≡ noted old.own (Some v.file) name k →
    new.cells ≡ old.cells + size_of (variable_at v) → new.arrays ≡ old.arrays + cond (is_array (variable_at v)) 1 0 →
    IsVariables old vs → IsVariables new (vs ++ variable_at v ∷ [])
variables-push old new vs v m name k named counted row meaning same globals own cells arrays is =
    let count : k ≡ length vs = counted ∙ sym (length-map old.rows.items variable_at) ∙ ap length is.rows in
    let x : Variable = variable_at v in
    record {
      rows = ap (map variable_at) row ∙ map_push variable_at old.rows.items v ∙ ap (λ r. r ++ x ∷ []) is.rows;
      meanings = ap (map meaning_of) meaning ∙ map_push meaning_of old.meanings.items m ∙ (λ i. is.meanings i ++ same i ∷ []) ∙ sym (each_append (λ before w. variable_behind before w ∷ []) [] vs (x ∷ []));
      globals = λ n. noted_first (is_global n) vs x old.globals new.globals None None x.name n k v.global count refl (globals ∙ ap (λ m. cond v.global (noted old.globals None m k) old.globals) named) (is.globals n);
      own = λ file n. noted_first (is_own_variable file n) vs x old.own new.own (Some x.file) (Some file) x.name n k true count refl (own ∙ ap (λ m. noted old.own (Some x.file) m k) named) (is.own file n);
      cells =
          let e : sum_by size_of (vs ++ x ∷ []) ≡ sum_by size_of vs + (0 + size_of x) = sum_by-append size_of vs (x ∷ []) in
          cells ∙ ap (λ n. n + size_of x) is.cells ∙ (let f : sum_by size_of vs + size_of x ≡ sum_by size_of vs + (0 + size_of x) = omega arith in f) ∙ sym e;
      arrays =
          let one : Variable → ℕ = λ w. cond (is_array w) 1 0 in
          let e : sum_by one (vs ++ x ∷ []) ≡ sum_by one vs + (0 + one x) = sum_by-append one vs (x ∷ []) in
          arrays ∙ ap (λ n. n + one x) is.arrays ∙ (let f : sum_by one vs + one x ≡ sum_by one vs + (0 + one x) = omega arith in f) ∙ sym e;
    }
