-- The number of places of a project's code.
use Rattle.std.proofs.Common.{◌≡◌, ◌+◌, ◌*◌, ◌≤◌, true, ◌&&◌, List, [], ◌∷◌, length, map, ap, arith, length-append}
use Rattle.std.proofs.lemmas.List.Concat.{flat_map-cons}
use Rattle.std.proofs.lemmas.List.Sums.{sum_by-cons}
use Rattle.std.specs.List.{list_all, flat_map}
use Rattle.std.specs.Prelude.{nat_le, sum_by, IsTrue}
use Rattle.ci_base.specs.declared.bounds.TheConstants.{MOST_PARAMETERS, MOST_LOCALS}
use Rattle.ci_translation.proofs.Facts.{and_both, project_parts, function_parts}
use Rattle.ci_translation.proofs.Sizes.{block_length}
use Rattle.ci_translation.specs.Drafts.{Draft, step, first_step, block_size, block_code, function_code}
use Rattle.ci_translation.specs.Instructions.{left_kind}
use Rattle.ci_code.specs.declared.instruction.Instruction.TheVariants as does
use Rattle.ci_tree.specs.declared.bound.Function as code_function
use Rattle.ci_tree.specs.Bound.{Param, Function, Project}
use Rattle.ci_tree.specs.BoundNodes.{function_nodes}
use Rattle.ci_tree.specs.LeftOut.{Heads}
use Rattle.ci_tree.specs.SeenBound.{heads_of, function_of, project_of}
use Rattle.ci_tree.specs.Sound.{Context, context_of, is_default, are_last, is_block, is_function, is_sound}
use Rattle.ci_emit.proofs.Made.{block_of_made}
use Rattle.ci_emit.proofs.Short.{Few, block_short}
use Rattle.ci_emit.specs.Laws.{CodeIsShort}

body_right : (p : Project) (f : Function) → is_function p f ≡ true → is_block (context_of p f) f.body ≡ true
body_right p f e =
    (and_both
    (nat_le (length f.params) MOST_PARAMETERS && nat_le (length f.params + length f.others) MOST_LOCALS && list_all (λ (q : Param). is_default q.kind q.first) f.params && are_last f.params)
    (is_block (context_of p f) f.body) e).1

few_in : (p : Project) → IsTrue (is_sound p) → (f : Function) → Few (context_of p f)
few_in p sound f = record { few = λ n g found. (function_parts p sound n g found).parameters }

function_length : (p : Project) (f : Function) → length (function_code p f) ≡ block_size f.body + 3
function_length p f =
    let c : Context = context_of p f in
    let last : List Draft = first_step [] (left_kind f.gives) ∷ step (left_kind f.gives ∷ []) does.Return ∷ [] in
    omega (arith, length-append (block_code c [] 1 f.body) last, block_length c [] 1 f.body)

function_short : (p : Project) → IsTrue (is_sound p) → (heads : Heads) (f : code_function.Function) → is_function p (function_of heads f) ≡ true → length (function_code p (function_of heads f)) ≤ 24 * function_nodes (function_of heads f)
function_short p sound heads f e =
    let g : Function = function_of heads f in
    omega (arith, function_length p g, block_short (context_of p g) (few_in p sound g) g.body (block_of_made heads f.body) (body_right p g e))

functions_short : (p : Project) → IsTrue (is_sound p) → (heads : Heads) (fs : List code_function.Function) → list_all (is_function p) (map (function_of heads) fs) ≡ true →
    length (flat_map (function_code p) (map (function_of heads) fs)) ≤ 24 * sum_by function_nodes (map (function_of heads) fs)
functions_short p sound heads [] e = omega arith
functions_short p sound heads (f ∷ fs) e =
    let g : Function = function_of heads f in
    let gs : List Function = map (function_of heads) fs in
    let (h, t) = and_both (is_function p g) (list_all (is_function p) gs) e in
    omega (arith, ap (λ (l : List Draft). length l) (flat_map-cons (function_code p) g gs), length-append (function_code p g) (flat_map (function_code p) gs), sum_by-cons function_nodes g gs, function_short p sound heads f h, functions_short p sound heads fs t)

pub code_is_short : CodeIsShort
code_is_short parts kept =
    let p : Project = project_of parts in
    omega (arith, functions_short p kept.sound (heads_of parts.functions) parts.functions ((project_parts p kept.sound).each_function), kept.within)
