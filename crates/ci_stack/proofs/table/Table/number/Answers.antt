use Rattle.std.proofs.Common.{ℤ, Some, sym, ap, ◌∙◌, subst, arith, w32, to_z, of_z, SFits}
use Rattle.std.proofs.lemmas.Option.{slice_get_within}
use Rattle.ci_base.specs.declared.value.Value.TheVariants.{Int}
use Rattle.ci_stack.proofs.Placing.{within_words, number_word, trip, trip_wide}
use Rattle.ci_stack.proofs.table.Table.number.Goals as goal

pub index-requires : goal.index-requires
index-requires c = omega (arith, within_words c.self.inside.words.items c.self.inside.texts.items c.args.self.now c.args.place c.self.view_is (slice_get_within c.args.self.now c.args.place (Int c.requires.0) c.requires.1))

pub overflow_cast-result : goal.overflow_cast-result
overflow_cast-result c =
    let found = number_word c.self.inside.words.items c.self.inside.texts.items c.args.self.now c.args.place c.index.result.now c.requires.0 c.self.invariant.each c.self.view_is c.requires.1 c.index.ensures in
    subst (λ (z : ℤ). SFits w32 z) (sym (trip_wide c.index.result.now (omega (arith, found.0)))) (record { sfits = found.0 })

pub returns : goal.returns
returns c =
    let found = number_word c.self.inside.words.items c.self.inside.texts.items c.args.self.now c.args.place c.index.result.now c.requires.0 c.self.invariant.each c.self.view_is c.requires.1 c.index.ensures in
    c.requires.1
    ∙ ap (λ (z : ℤ). Some (Int z)) (sym found.1)
    ∙ ap (λ (z : ℤ). Some (Int z)) (sym (trip c.index.result.now found.0))
    ∙ ap (λ (z : ℤ). Some (Int (to_z w32 (of_z w32 z)))) (sym (trip_wide c.index.result.now (omega (arith, found.0))))
