-- A function of the code is the bound one, and its faults are those of the rules.
use Rattle.std.proofs.Common.{◌≡◌, ℕ, List, [], ◌∷◌, ◌++◌, length, map, drop, Option, refl, sym, ap, ◌∙◌}
use Rattle.std.specs.Prelude.{not, ◌||◌, ◌==◌, is_some}
use Rattle.std.specs.List.{list_any}
use Rattle.std.proofs.lemmas.List.{length-map, drop_at}
use Rattle.ci_base.specs.declared.bounds.TheConstants.{MOST_FUNCTIONS}
use Rattle.ci_base.specs.declared.value.Kind.{Kind}
use Rattle.ci_tree.specs.Bound as to
use Rattle.ci_tree.specs.declared.bound.Function as code
use Rattle.ci_tree.specs.SeenBound.{heads_of, function_of}
use Rattle.ci_names.specs.declared.fault.Fault.{Fault}
use Rattle.ci_names.specs.declared.fault.BindKind.TheVariants as kinds
use Rattle.ci_names.specs.declared.fault.Limit.TheVariants as limits
use Rattle.ci_names.specs.Fault.{noted}
use Rattle.ci_names.specs.Given.{given_named}
use Rattle.ci_names.specs.Declarations.{Function, Declared, each_behind, given_kind}
use Rattle.ci_names.specs.Scopes.{Scope, Local, param_local, scope_of, with_locals, locals_in_block}
use Rattle.ci_names.specs.Expressions.{broken}
use Rattle.ci_names.specs.Statements.{maybe, type_faults, block_faults}
use Rattle.ci_names.specs.Faults.{param_faults, same_function, function_faults}
use Rattle.ci_names.specs.Binding.{heads_in, bound_param, bound_function, bound_block}
use Rattle.ci_binder.proofs.Told.{function_noted}

-- where the body of a function begins
pub opened : (d : Declared) (f : Function) (gives : Option Kind) (s here : Scope) → gives ≡ given_kind f.gives →
    s ≡ record { declared = d; file = f.file; gives = gives; locals = [] } → here ≡ with_locals s (map param_local f.params) → here ≡ scope_of d f
opened d f gives s here hg hs h = h ∙ ap (λ t. with_locals t (map param_local f.params)) (hs ∙ ap (λ x. record { declared = d; file = f.file; gives = x; locals = [] }) hg)

-- the kinds of the locals behind the parameters
others_same : (d : Declared) (f : Function) (here there : Scope) (others : List Kind) → here ≡ scope_of d f → there ≡ with_locals here (locals_in_block f.body) →
    others ≡ map (λ (l : Local). l.kind) (drop (length f.params) there.locals) → others ≡ map (λ (l : Local). l.kind) (locals_in_block f.body)
others_same d f here there others h i o =
    o
    ∙ ap (λ (t : Scope). map (λ (l : Local). l.kind) (drop (length f.params) t.locals)) (i ∙ ap (λ t. with_locals t (locals_in_block f.body)) h)
    ∙ ap (map (λ (l : Local). l.kind)) (drop_at (map param_local f.params) (locals_in_block f.body) (length f.params) (length-map f.params param_local))

-- the parts of a bound function
pub function_same : (d : Declared) (f : Function) (here there : Scope) (name : List ℕ) (gives : Option Kind) (params : List to.Param) (others : List Kind) (body : to.Block) →
    here ≡ scope_of d f → there ≡ with_locals here (locals_in_block f.body) → name ≡ f.name → gives ≡ given_kind f.gives → params ≡ map bound_param f.params →
    others ≡ map (λ (l : Local). l.kind) (drop (length f.params) there.locals) → body ≡ bound_block here f.body →
    ◌≡◌ {A = to.Function} (record { file = f.file; name = name; public = not f.private; gives = gives; params = params; others = others; body = body }) (bound_function d f)
function_same d f here there name gives params others body h i hn hg hp ho hb =
    ap (λ x. made x gives params others body) hn
    ∙ ap (λ x. made f.name x params others body) hg
    ∙ ap (λ x. made f.name (given_kind f.gives) x others body) hp
    ∙ ap (λ x. made f.name (given_kind f.gives) (map bound_param f.params) x body) (others_same d f here there others h i ho)
    ∙ ap (made f.name (given_kind f.gives) (map bound_param f.params) (map (λ (l : Local). l.kind) (locals_in_block f.body))) (hb ∙ ap (λ t. bound_block t f.body) h)
  where
    made : List ℕ → Option Kind → List to.Param → List Kind → to.Block → to.Function
    made n g p o b = record { file = f.file; name = n; public = not f.private; gives = g; params = p; others = o; body = b }

-- the rules of a function, one after the other
pub function_told : (found found1 found2 found3 : Option Fault) (d : Declared) (before : List Function) (f : Function) (s here : Scope) (n : ℕ) → length before ≡ n → s.file ≡ f.file → here ≡ scope_of d f →
    found1 ≡ noted found (
    broken (list_any (same_function f) before || is_some (given_named f.name)) s f.at kinds.DeclaredTwice
    ++ broken (n == MOST_FUNCTIONS) s f.at (kinds.Limit limits.Functions)
    ++ maybe (type_faults s) f.gives) →
    found2 ≡ noted found1 (each_behind (param_faults s) [] f.params) →
    found3 ≡ noted found2 (block_faults here f.body) →
    found3 ≡ noted found (function_faults d before f)
function_told found found1 found2 found3 d before f s here n hn hs hh h1 h2 h3 =
    h3
    ∙ ap (λ t. noted found2 (block_faults t f.body)) hh
    ∙ ap (λ o. noted o (block_faults (scope_of d f) f.body)) (
    h2
    ∙ ap (λ o. noted o (each_behind (param_faults s) [] f.params)) (
    h1
    ∙ ap (λ k. noted found (
    broken (list_any (same_function f) before || is_some (given_named f.name)) s f.at kinds.DeclaredTwice
    ++ broken (k == MOST_FUNCTIONS) s f.at (kinds.Limit limits.Functions)
    ++ maybe (type_faults s) f.gives)) (sym hn)))
    ∙ sym (function_noted found d before f s hs)

-- what the bound functions take is what the declared ones take
pub heads_same : (d : Declared) (fs : List code.Function) → map (function_of (heads_in d)) fs ≡ map (bound_function d) d.functions → heads_of fs ≡ heads_in d
heads_same d fs h =
    sym (each_params (function_of (heads_in d)) fs) ∙ ap (map (λ (f : to.Function). f.params)) h ∙ each_params (bound_function d) d.functions
  where
    each_params : {A : Type 0} (g : A → to.Function) (xs : List A) → map (λ (f : to.Function). f.params) (map g xs) ≡ map (λ x. (g x).params) xs
    each_params g [] = refl
    each_params g (x ∷ xs) = ap (λ ys. (g x).params ∷ ys) (each_params g xs)
