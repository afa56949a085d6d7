use Rattle.std.proofs.Common.{rules, ◌≡◌, ◌+◌, drop, map, sym, ap, ◌∙◌}
use Rattle.std.specs.Prelude.{◌&&◌}
use Rattle.std.proofs.lemmas.List.{drop_all}
use Rattle.ci_base.specs.declared.value.Kind.TheVariants.{Int}
use Rattle.ci_names.specs.declared.fault.BindKind.TheVariants as kinds
use Rattle.ci_names.specs.Fault.{noted}
use Rattle.ci_names.specs.Kinds.{kind_of}
use Rattle.ci_names.specs.Binding.{heads_in, bound_expr}
use Rattle.ci_tree.specs.Bound as to
use Rattle.ci_bodies.specs.Made.{expr_in, links_in}
use Rattle.ci_bodies.specs.Links.{bound_link}
use Rattle.ci_names.specs.Expressions.{broken, differs, wants_kind, expr_faults, links_faults, int_operand, clash, operation}
use Rattle.ci_tree.specs.Operators.{joins}
use Rattle.ci_tree.specs.Tree as tree
use Rattle.ci_tree.specs.declared.tree.Expr.{the_lemmas}
use Rattle.ci_tree.specs.Seen.{expr_of, link_of, links_of}
use Rattle.ci_scopes.specs.Seen.{scope_of, taken_of}
use Rattle.ci_bodies.proofs.Links.{links_more, links_end}
use Rattle.ci_bodies.proofs.Arguments.{args_more, args_end}
use Rattle.ci_bodies.proofs.Loops.{next}
use Rattle.ci_bodies.proofs.Noted.{part_noted, rule_noted, both_noted}
use Rattle.ci_bodies.proofs.expressions.+expressions.Goals.{arguments-then-fit, arguments-else-fit}
use Rattle.ci_bodies.proofs.expressions.+expressions.Goals as goal

pub part-returns-clause-found : goal.part-returns-clause-found
part-returns-clause-found t c =
    let s = scope_of c.args.scope.now in
    let e = expr_of c.args.e.now in
    let old = c.args.found.now in
    part_noted old c.note_if.new.found c.expression.new.found c.note_also.new.found (wants_kind s c.args.kind e) (expr_faults s e)
    (rule_noted old c.note_if.new.found s c.start_of.result kinds.KindsDiffer c.differs.result (differs c.args.kind (kind_of s e)) (c.differs.ensures ∙ ap (differs c.args.kind) c.in_ok-bound.ensures.kind) c.note_if.ensures
    ∙ ap (λ x. noted old (broken (differs c.args.kind (kind_of s e)) s x kinds.KindsDiffer)) c.start_of.ensures)
    c.in_ok-bound.ensures.found c.note_also.ensures

pub unary-returns-clause-found : goal.unary-returns-clause-found
unary-returns-clause-found t c =
    let s = scope_of c.args.scope.now in
    let e = expr_of c.args.operand.now in
    part_noted c.args.found.now c.note_if.new.found c.expression.new.found c.note_also.new.found (int_operand s c.args.at (kind_of s e)) (expr_faults s e)
    (rule_noted c.args.found.now c.note_if.new.found s c.args.at kinds.KindsDiffer c.differs.result (differs Int (kind_of s e)) (c.differs.ensures ∙ ap (differs Int) c.in_ok-bound.ensures.kind) c.note_if.ensures)
    c.in_ok-bound.ensures.found c.note_also.ensures

pub right-returns-clause-found : goal.right-returns-clause-found
right-returns-clause-found t c =
    let s = scope_of c.args.scope.now in
    let e = expr_of c.args.operand.now in
    let at = c.args.at in
    let op = c.args.operator in
    let left = c.args.left in
    part_noted c.args.found.now c.note_if.new.found c.expression.new.found c.note_also.new.found (operation s at op left (kind_of s e)) (expr_faults s e)
    (rule_noted c.args.found.now c.note_if.new.found s at kinds.KindsDiffer c.clash.result (clash (joins op) left (kind_of s e))
    (c.clash.ensures ∙ ap (λ j. clash j left c.in_ok-bound.right) c.joins-joins.ensures ∙ ap (clash (joins op) left) c.in_ok-bound.ensures.kind) c.note_if.ensures)
    c.in_ok-bound.ensures.found c.note_also.ensures

pub links-loop-member-preserved : goal.links-loop-member-preserved
links-loop-member-preserved t c =
    let i = c.loop-member.member-index in
    links_more (scope_of c.args.scope.now) c.loop-member.links c.push.new.items c.in_ok-one.one c.loop-member.kind c.in_ok-one.behind c.loop-member.found c.link.new.found
    (drop i c.args.rest.now) (drop (i + 1) c.args.rest.now) c.member-item.result c.args.left c.args.found.now c.args.rest.now
    c.in_ok-push.ensures c.in_ok-one.ensures.tree c.in_ok-one.ensures.kind c.in_ok-one.ensures.found (next c.args.rest.now i c.member-item.result c.member-item.is c.loop-member-test.true) c.loop-member.invariant

pub arguments-loop-arg-preserved : goal.arguments-loop-arg-preserved
arguments-loop-arg-preserved t c =
    let i = c.loop-arg.arg-index in
    let now : c.if-fit.fit ≡ (c.loop-arg.fit && c.in_ok-one.fits) =
    elim c.if-fit.branch [
      | arguments-then-fit w ↦ w.fit-is ∙ sym (ap (λ x. x && c.in_ok-one.fits) w.if-fit.true)
      | arguments-else-fit w ↦ w.fit-is ∙ w.if-fit.false ∙ sym (ap (λ x. x && c.in_ok-one.fits) w.if-fit.false)
    ] in
    args_more (scope_of c.args.scope.now) c.loop-arg.bound c.push.new.items c.in_ok-one.one c.loop-arg.fit c.in_ok-one.fits c.if-fit.fit c.loop-arg.found c.argument.new.found
    (map taken_of c.loop-arg.left.now) (map taken_of c.behind-left.result.now) (drop i c.args.args.now) (drop (i + 1) c.args.args.now) c.arg-item.result (map taken_of c.args.takes.now) c.args.found.now c.args.args.now
    c.in_ok-push.ensures c.in_ok-one.ensures.tree c.in_ok-one.ensures.fits now c.in_ok-one.ensures.found c.behind-left.ensures
    (next c.args.args.now i c.arg-item.result c.arg-item.is c.loop-arg-test.true) c.loop-arg.invariant

pub expression-returns-in_ok-boxed-in-Chain-clause-found : goal.expression-returns-in_ok-boxed-in-Chain-clause-found
expression-returns-in_ok-boxed-in-Chain-clause-found t c =
    let s = scope_of c.args.scope.now in
    let first = expr_of c.get-in-Chain.result.now in
    let rest = links_of c.as_slice-in-Chain.result.now in
    let both = both_noted c.args.found.now c.expression.new.found c.links.new.found (expr_faults s first) (links_faults s (kind_of s first) rest)
    c.in_ok-first-in-Chain.ensures.found (c.in_ok-links-in-Chain.ensures.found ∙ ap (λ k. noted c.expression.new.found (links_faults s k rest)) c.in_ok-first-in-Chain.ensures.kind) in
    let seen : expr_of c.args.e.now ≡ tree.expr c.args.e.now.start c.args.e.now.at (tree.chain first rest) = search (rules, the_lemmas) in
    both ∙ ap (λ e. noted c.args.found.now (expr_faults s e)) (sym seen)

pub links-returns-clause-tree : goal.links-returns-clause-tree
links-returns-clause-tree t c =
    (links_end (scope_of c.args.scope.now) c.loop-member.links c.loop-member.kind c.loop-member.found (drop c.loop-member.member-index c.args.rest.now) c.args.left c.args.found.now c.args.rest.now
    (drop_all c.loop-member.member-index c.args.rest.now c.loop-member-test.false) c.loop-member.invariant).0

pub arguments-returns-clause-tree : goal.arguments-returns-clause-tree
arguments-returns-clause-tree t c =
    (args_end (scope_of c.args.scope.now) c.loop-arg.bound c.loop-arg.fit c.loop-arg.found (map taken_of c.loop-arg.left.now) (drop c.loop-arg.arg-index c.args.args.now) (map taken_of c.args.takes.now) c.args.found.now c.args.args.now
    (drop_all c.loop-arg.arg-index c.args.args.now c.loop-arg-test.false) c.loop-arg.invariant).0

pub call_value-returns-clause-tree : goal.call_value-returns-clause-tree
call_value-returns-clause-tree t c =
    let heads = heads_in (scope_of c.args.scope.now).declared in
    let made = c.called.ensures heads in
    let call = c.in_ok-call.ensures heads in
    search (rules, made, call)

pub element-returns-clause-tree : goal.element-returns-clause-tree
element-returns-clause-tree t c = let made = c.element.ensures (heads_in (scope_of c.args.scope.now).declared) in search (rules, made)

pub unary-returns-clause-tree : goal.unary-returns-clause-tree
unary-returns-clause-tree t c = let made = c.unary.ensures (heads_in (scope_of c.args.scope.now).declared) in search (rules, made)

pub link-returns-in-Hashes-clause-tree : goal.link-returns-in-Hashes-clause-tree
link-returns-in-Hashes-clause-tree t c =
    let s = scope_of c.args.scope.now in
    let seen : link_of c.args.member.now ≡ tree.hashes_link c.in-Hashes.at c.in-Hashes.count = search (rules, the_lemmas) in
    c.of_hashes.ensures (heads_in s.declared) ∙ ap (bound_link s) (sym seen)

pub link-returns-in_ok-bound-in-Operand-clause-tree : goal.link-returns-in_ok-bound-in-Operand-clause-tree
link-returns-in_ok-bound-in-Operand-clause-tree t c =
    let s = scope_of c.args.scope.now in
    let o = c.in-Operand in
    let seen : link_of c.args.member.now ≡ tree.operand_link o.at o.operator (expr_of o.operand) = search (rules, the_lemmas) in
    c.of_operand.ensures (heads_in s.declared) ∙ ap (to.operand_link o.operator) c.in_ok-bound-in-Operand.ensures.tree ∙ ap (bound_link s) (sym seen)

pub expression-returns-in-Number-clause-tree : goal.expression-returns-in-Number-clause-tree
expression-returns-in-Number-clause-tree t c = let made = c.number.ensures (heads_in (scope_of c.args.scope.now).declared) in search (rules, the_lemmas, made)

pub expression-returns-in_ok-copy-in-Literal-clause-tree : goal.expression-returns-in_ok-copy-in-Literal-clause-tree
expression-returns-in_ok-copy-in-Literal-clause-tree t c =
    let s = scope_of c.args.scope.now in
    let seen : expr_of c.args.e.now ≡ tree.expr c.args.e.now.start c.args.e.now.at (tree.literal c.in-Literal.text) = search (rules, the_lemmas) in
    let made = c.literal.ensures (heads_in s.declared) in
    made ∙ ap to.literal (c.in_ok-copy-in-Literal.ensures ∙ c.bytes.ensures) ∙ ap (bound_expr s) (sym seen)

pub expression-returns-in_ok-boxed-in-Chain-clause-tree : goal.expression-returns-in_ok-boxed-in-Chain-clause-tree
expression-returns-in_ok-boxed-in-Chain-clause-tree t c =
    let s = scope_of c.args.scope.now in
    let first = expr_of c.get-in-Chain.result.now in
    let rest = links_of c.as_slice-in-Chain.result.now in
    let seen : expr_of c.args.e.now ≡ tree.expr c.args.e.now.start c.args.e.now.at (tree.chain first rest) = search (rules, the_lemmas) in
    c.chain.ensures (heads_in s.declared)
    ∙ ap (λ x. to.chain (expr_in s x) (links_in s c.in_ok-links-in-Chain.links)) c.in_ok-boxed-in-Chain.ensures
    ∙ (λ i. to.chain (c.in_ok-first-in-Chain.ensures.tree i) (c.in_ok-links-in-Chain.ensures.tree i))
    ∙ ap (bound_expr s) (sym seen)
