use Rattle.std.proofs.Common.{rules, ◌≡◌, ◌+◌, ◌++◌, [], ◌∷◌, drop, length, map, refl, sym, ap, ◌∙◌}
use Rattle.std.proofs.lemmas.List.{drop_all}
use Rattle.ci_base.specs.declared.value.Kind.TheVariants.{Int}
use Rattle.ci_code.specs.declared.instruction.Instruction.TheVariants as does
use Rattle.ci_translation.specs.Instructions.{left_kind, turning, operating, calling}
use Rattle.ci_tree.specs.declared.bound.Expr.{the_lemmas}
use Rattle.ci_tree.specs.Bound as to
use Rattle.ci_tree.specs.Bound.{Expr, Links, Call, links_from}
use Rattle.ci_tree.specs.LeftOut.{call_given, left_out, followed, count_of}
use Rattle.ci_tree.specs.SeenBound.{scalar_of, callee_of, expr_of, exprs_of, call_of, link_of, links_of}
use Rattle.ci_emit.specs.Contexts.{context, heads}
use Rattle.ci_emit.proofs.Loops.{next, args_next, args_done, links_next, links_done}
use Rattle.ci_emit.proofs.Writings.{plain_then, expr_then, over, argued_one, argued_both, argued_call, seen_expr, seen_call, seen_links, is_expr, is_call, links_put, given_call, given_kind}
use Rattle.ci_emit.proofs.expressions.+expressions.Goals as goal

-- Each form

pub expression-returns-in_ok-put-in-Number-clause-code : goal.expression-returns-in_ok-put-in-Number-clause-code
expression-returns-in_ok-put-in-Number-clause-code t c =
    let seen : expr_of (heads c.args.parts.now) c.args.expr.now ≡ to.number c.in-Number.value = search (rules, the_lemmas) in
    is_expr (context c.args.parts.now c.args.function.now) c.args.writer.now c.put.new.self (expr_of (heads c.args.parts.now) c.args.expr.now) (to.number c.in-Number.value) seen (c.in_ok-put-in-Number.ensures (does.PushInt c.in-Number.value) (search rules))

pub expression-returns-in-Literal-clause-code : goal.expression-returns-in-Literal-clause-code
expression-returns-in-Literal-clause-code t c =
    let seen : expr_of (heads c.args.parts.now) c.args.expr.now ≡ to.literal c.in-Literal.text = search (rules, the_lemmas) in
    seen_expr _ (context c.args.parts.now c.args.function.now) _ _ (expr_of (heads c.args.parts.now) c.args.expr.now) (to.literal c.in-Literal.text) seen (c.literal.ensures.code (context c.args.parts.now c.args.function.now))

pub expression-returns-in-Scalar-clause-code : goal.expression-returns-in-Scalar-clause-code
expression-returns-in-Scalar-clause-code t c =
    let seen : expr_of (heads c.args.parts.now) c.args.expr.now ≡ to.scalar (scalar_of c.in-Scalar.of) = search (rules, the_lemmas) in
    seen_expr _ (context c.args.parts.now c.args.function.now) _ _ (expr_of (heads c.args.parts.now) c.args.expr.now) (to.scalar (scalar_of c.in-Scalar.of)) seen c.scalar.ensures.code

pub expression-returns-in-Element-clause-code : goal.expression-returns-in-Element-clause-code
expression-returns-in-Element-clause-code t c =
    let seen : expr_of (heads c.args.parts.now) c.args.expr.now ≡ to.element c.in-Element.array (expr_of (heads c.args.parts.now) c.get.result.now) = search (rules, the_lemmas) in
    seen_expr _ (context c.args.parts.now c.args.function.now) _ _ (expr_of (heads c.args.parts.now) c.args.expr.now) (to.element c.in-Element.array (expr_of (heads c.args.parts.now) c.get.result.now)) seen c.element.ensures.code

pub expression-returns-in-Called-clause-code : goal.expression-returns-in-Called-clause-code
expression-returns-in-Called-clause-code t c =
    let seen : expr_of (heads c.args.parts.now) c.args.expr.now ≡ to.called (call_of (heads c.args.parts.now) c.in-Called.what) = search (rules, the_lemmas) in
    seen_expr _ (context c.args.parts.now c.args.function.now) _ _ (expr_of (heads c.args.parts.now) c.args.expr.now) (to.called (call_of (heads c.args.parts.now) c.in-Called.what)) seen c.call.ensures.code

pub expression-returns-in-Unary-clause-code : goal.expression-returns-in-Unary-clause-code
expression-returns-in-Unary-clause-code t c =
    let seen : expr_of (heads c.args.parts.now) c.args.expr.now ≡ to.unary c.in-Unary.minus (expr_of (heads c.args.parts.now) c.get-in-Unary.result.now) = search (rules, the_lemmas) in
    seen_expr _ (context c.args.parts.now c.args.function.now) _ _ (expr_of (heads c.args.parts.now) c.args.expr.now) (to.unary c.in-Unary.minus (expr_of (heads c.args.parts.now) c.get-in-Unary.result.now)) seen c.unary.ensures.code

pub expression-returns-in_ok-kind-in-Chain-clause-code : goal.expression-returns-in_ok-kind-in-Chain-clause-code
expression-returns-in_ok-kind-in-Chain-clause-code t c =
    let hs = heads c.args.parts.now in
    let k = context c.args.parts.now c.args.function.now in
    let first = expr_of hs c.get-in-Chain.result.now in
    let rest = links_of hs c.as_slice.result.now in
    let seen : expr_of hs c.args.expr.now ≡ to.chain first rest = search (rules, the_lemmas) in
    seen_expr c.links.result k c.args.writer.now c.links.new.writer (expr_of hs c.args.expr.now) (to.chain first rest) seen
    (links_put c.links.result k c.args.writer.now c.expression.new.writer c.links.new.writer c.in_ok-kind-in-Chain.kind first rest c.in_ok-kind-in-Chain.ensures.code c.in_ok-kind-in-Chain.ensures.kind c.links.ensures.code)

pub expression_over-returns-clause-code : goal.expression_over-returns-clause-code
expression_over-returns-clause-code t c =
    over c.args.kinds.now c.depth-depth.result c.depth-depth.ensures c.in_ok-over.ensures.pad c.in_ok-over.ensures.below c.in_ok-kind.ensures.code c.back_to.ensures.pad c.back_to.ensures.below

pub element-returns-clause-code : goal.element-returns-clause-code
element-returns-clause-code t c =
    plain_then (context c.args.parts.now c.args.function.now) (expr_of (heads c.args.parts.now) c.args.index.now) c.in_ok-expression.ensures.code
    (c.in_ok-put_over.ensures (does.ReadAt c.args.array) (ap does.ReadAt c.word.ensures))

pub unary-returns-clause-code : goal.unary-returns-clause-code
unary-returns-clause-code t c =
    plain_then (context c.args.parts.now c.args.function.now) (expr_of (heads c.args.parts.now) c.args.operand.now) c.in_ok-expression.ensures.code
    (c.in_ok-put_over.ensures (turning c.args.minus) c.turning.ensures)

-- Chains

pub links-loop-member-init : goal.links-loop-member-init
links-loop-member-init t c = record { goes = λ x h. h; leaves = refl }

pub links-loop-member-preserved : goal.links-loop-member-preserved
links-loop-member-preserved t c =
    let i = c.loop-member.member-index in
    let hs = heads c.args.parts.now in
    let k = context c.args.parts.now c.args.function.now in
    let seen : links_of hs (drop i c.args.rest.now) ≡ links_from (link_of hs c.member-item.result ∷ map (link_of hs) (drop (i + 1) c.args.rest.now)) = ap (links_of hs) (next c.args.rest.now i c.member-item.result c.member-item.is c.loop-member-test.true) in
    links_next k c.args.writer.now c.loop-member.writer c.link.new.writer c.args.left c.loop-member.kind c.in_ok-behind.behind (links_of hs c.args.rest.now) (links_of hs (drop i c.args.rest.now)) (link_of hs c.member-item.result) (map (link_of hs) (drop (i + 1) c.args.rest.now)) seen
    c.in_ok-behind.ensures.code c.in_ok-behind.ensures.kind c.loop-member.invariant

pub links-returns-clause-code : goal.links-returns-clause-code
links-returns-clause-code t c =
    let hs = heads c.args.parts.now in
    (links_done (context c.args.parts.now c.args.function.now) c.args.writer.now c.loop-member.writer c.args.left c.loop-member.kind (links_of hs c.args.rest.now) (links_of hs (drop c.loop-member.member-index c.args.rest.now))
    (ap (links_of hs) (drop_all c.loop-member.member-index c.args.rest.now c.loop-member-test.false)) c.loop-member.invariant).0

pub links-returns-clause-kind : goal.links-returns-clause-kind
links-returns-clause-kind t c =
    let hs = heads c.args.parts.now in
    (links_done (context c.args.parts.now c.args.function.now) c.args.writer.now c.loop-member.writer c.args.left c.loop-member.kind (links_of hs c.args.rest.now) (links_of hs (drop c.loop-member.member-index c.args.rest.now))
    (ap (links_of hs) (drop_all c.loop-member.member-index c.args.rest.now c.loop-member-test.false)) c.loop-member.invariant).1

pub link-returns-in-Operand-clause-code : goal.link-returns-in-Operand-clause-code
link-returns-in-Operand-clause-code t c =
    let hs = heads c.args.parts.now in
    let seen : link_of hs c.args.member.now ≡ to.operand_link c.in-Operand.operator (expr_of hs c.in-Operand.right) = search (rules, the_lemmas) in
    seen_links _ (context c.args.parts.now c.args.function.now) c.args.left _ _ (links_from (link_of hs c.args.member.now ∷ [])) (to.operand c.in-Operand.operator (expr_of hs c.in-Operand.right) to.no_link) (ap (λ x. links_from (x ∷ [])) seen) c.operand.ensures.code

pub link-returns-in-Hashes-clause-code : goal.link-returns-in-Hashes-clause-code
link-returns-in-Hashes-clause-code t c =
    let hs = heads c.args.parts.now in
    let seen : link_of hs c.args.member.now ≡ to.hashes_link c.in-Hashes.count = search (rules, the_lemmas) in
    seen_links _ (context c.args.parts.now c.args.function.now) c.args.left _ _ (links_from (link_of hs c.args.member.now ∷ [])) (to.hashes c.in-Hashes.count to.no_link) (ap (λ x. links_from (x ∷ [])) seen) (c.hashes.ensures.code (context c.args.parts.now c.args.function.now) c.args.left)

pub operand-returns-clause-code : goal.operand-returns-clause-code
operand-returns-clause-code t c =
    expr_then (context c.args.parts.now c.args.function.now) (c.args.left ∷ []) (expr_of (heads c.args.parts.now) c.args.right.now) c.in_ok-expression_over.ensures.code
    (c.in_ok-put_over.ensures (operating c.args.operator c.args.left) c.operating.ensures)

-- Calls

pub call-returns-in-Plain-clause-code : goal.call-returns-in-Plain-clause-code
call-returns-in-Plain-clause-code t c =
    let hs = heads c.args.parts.now in
    let seen : call_of hs c.args.what.now ≡ call_given hs (callee_of c.in-Plain.callee) (exprs_of hs c.as_slice.result.now) = search (rules, the_lemmas) in
    seen_call _ (context c.args.parts.now c.args.function.now) _ _ (call_of hs c.args.what.now) (call_given hs (callee_of c.in-Plain.callee) (exprs_of hs c.as_slice.result.now)) seen c.plain_call.ensures.code

pub call-returns-in_ok-take_element-in-QueRead-clause-code : goal.call-returns-in_ok-take_element-in-QueRead-clause-code
call-returns-in_ok-take_element-in-QueRead-clause-code t c =
    let hs = heads c.args.parts.now in
    let k = context c.args.parts.now c.args.function.now in
    let queue = expr_of hs c.get.result.now in
    let mode = expr_of hs c.get-in-QueRead.result.now in
    let read = to.que_read queue (scalar_of c.in-QueRead.sort) (scalar_of c.in-QueRead.text) mode in
    let seen : call_of hs c.args.what.now ≡ read = search (rules, the_lemmas) in
    is_call k c.args.writer.now c.take_element.new.writer (call_of hs c.args.what.now) read seen
    (plain_then k queue c.in_ok-expression-in-QueRead.ensures.code (expr_then k (Int ∷ []) mode c.in_ok-expression_over-in-QueRead.ensures.code c.in_ok-take_element-in-QueRead.ensures))

pub plain_call-returns-clause-code : goal.plain_call-returns-clause-code
plain_call-returns-clause-code t c =
    let hs = heads c.args.parts.now in
    let k = context c.args.parts.now c.args.function.now in
    let args = exprs_of hs c.args.args.now in
    let callee = callee_of c.args.callee in
    given_call k hs callee c.args.args.now c.args.writer.now c.back_to.new.self
    (argued_call k callee (count_of args) (followed args (left_out hs callee (length c.args.args.now))) c.depth-depth.result c.depth-depth.ensures (argued_both k args (left_out hs callee (length c.args.args.now)) c.in_ok-arguments.ensures (c.in_ok-left_out.ensures k))
    (c.in_ok-put.ensures (calling callee) c.calling.ensures) c.back_to.ensures.pad c.back_to.ensures.below)

pub arguments-loop-arg-init : goal.arguments-loop-arg-init
arguments-loop-arg-init t c = record { goes = λ x h. h }

pub arguments-loop-arg-preserved : goal.arguments-loop-arg-preserved
arguments-loop-arg-preserved t c =
    let i = c.loop-arg.arg-index in
    let hs = heads c.args.parts.now in
    let k = context c.args.parts.now c.args.function.now in
    let e = expr_of hs c.arg-item.result in
    let seen : exprs_of hs (drop i c.args.args.now) ≡ to.more e (exprs_of hs (drop (i + 1) c.args.args.now)) = ap (exprs_of hs) (next c.args.args.now i c.arg-item.result c.arg-item.is c.loop-arg-test.true) in
    args_next k c.args.writer.now c.loop-arg.writer c.over.new.self (exprs_of hs c.args.args.now) (to.more e to.no_expr) (exprs_of hs (drop (i + 1) c.args.args.now)) (exprs_of hs (drop i c.args.args.now)) seen
    (argued_one k e c.in_ok-kind.ensures.code c.in_ok-over.ensures.pad (c.in_ok-over.ensures.below ∙ ap (λ j. c.expression.new.writer.below ++ j ∷ []) c.in_ok-kind.ensures.kind))
    c.loop-arg.invariant

pub arguments-returns : goal.arguments-returns
arguments-returns t c =
    let hs = heads c.args.parts.now in
    args_done (context c.args.parts.now c.args.function.now) c.args.writer.now c.loop-arg.writer (exprs_of hs c.args.args.now) (exprs_of hs (drop c.loop-arg.arg-index c.args.args.now))
    (ap (exprs_of hs) (drop_all c.loop-arg.arg-index c.args.args.now c.loop-arg-test.false)) c.loop-arg.invariant

pub plain_call-returns-clause-kind : goal.plain_call-returns-clause-kind
plain_call-returns-clause-kind t c =
    let hs = heads c.args.parts.now in
    c.gives.ensures ∙ ap left_kind (sym (given_kind (context c.args.parts.now c.args.function.now) hs (callee_of c.args.callee) (exprs_of hs c.args.args.now)))
