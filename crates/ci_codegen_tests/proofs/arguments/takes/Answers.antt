use Rattle.std.proofs.Common.{◌≡◌, ◌<◌, length, map, Some, slice_get, refl, arith, rules}
use Rattle.std.proofs.lemmas.Option.{slice_get_read}
use Rattle.ci_base.specs.Values.{kind_of}
use Rattle.ci_codegen_tests.proofs.Fitting.{fitting}
use Rattle.ci_codegen_tests.proofs.arguments.takes.Goals as goal

pub returns-in-Some : goal.returns-in-Some
returns-in-Some c = λ is.
    let code = c.args.code.now in
    let heads = c.members-2.result.now in
    let f = c.args.function in
    let head = c.in-Some.head.now in
    let same : c.parts-parts.result.now ≡ code = c.parts-parts.ensures.value in
    let below : f < length code.functions = rw (← same) (first_of (omega arith, grind arith, search rules)) in
    let listed : heads ≡ code.layout.functions = rw (← same) c.members-2.ensures in
    let found : slice_get code.layout.functions f ≡ Some head = rw (← listed) (slice_get_read heads (length heads) f head refl c.in-Some.ensures.lookup.3.0 c.in-Some.ensures.lookup.1) in
    let are : map kind_of c.args.args.now ≡ head.kinds = rw (← c.values.ensures.value, ← c.members-in-Some.ensures) (c.are_of_kinds.ensures.0 is) in
    fitting code f c.args.args.now head below found are
