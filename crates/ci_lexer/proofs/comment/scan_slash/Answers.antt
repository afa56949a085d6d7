use Rattle.std.proofs.Common.{length, ◌-◌, take, drop, ap, ◌∷◌, sym, ◌∙◌}
use Rattle.ci_lexer.specs.declared.lead.Lead.TheVariants.{Slash}
use Rattle.ci_lexer.proofs.Backs.{slash-lead}
use Rattle.ci_lexer.proofs.Closing.{slash_two, slash_alone}
use Rattle.ci_lexer.proofs.Steps.{slash_step, first_rest, first_lead}
use Rattle.ci_lexer.proofs.comment.scan_slash.Goals as goal

pub line_comment-requires : goal.line_comment-requires
line_comment-requires c =
    slash_two c.args.rest.now 47 c.requires.lead (sym c.begins_with.ensures ∙ c.if-begins_with.true)

pub enclosed_comment-requires : goal.enclosed_comment-requires
enclosed_comment-requires c =
    slash_two c.args.rest.now 42 c.requires.lead (sym c.begins_with-else-begins_with.ensures ∙ c.if-begins_with-2.true)

pub returns-else-begins_with-2-clause-ok : goal.returns-else-begins_with-2-clause-ok
returns-else-begins_with-2-clause-ok c =
    let s = c.args.rest.now in
    let behind = take (length s - 1) (drop 1 s) in
    slash_step s behind
    (first_rest Slash s c.requires.lead ∙ ap (λ b. b ∷ behind) (slash-lead _ (first_lead Slash s c.requires.lead)))
    (slash_alone behind (sym c.begins_with.ensures ∙ c.if-begins_with.false) (sym c.begins_with-else-begins_with.ensures ∙ c.if-begins_with-2.false))
