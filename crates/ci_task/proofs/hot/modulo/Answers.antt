use Rattle.std.proofs.Common.{◌≡◌, ℤ, Ok, sym, ap, ◌∙◌, w32, to_z, of_z}
use Rattle.ci_base.specs.Arithmetic.{remainder}
use Rattle.ci_base.specs.Values.{Outcome}
use Rattle.ci_base.specs.declared.value.Value.TheVariants.{Int}
use Rattle.ci_code.specs.declared.instruction.Instruction.TheVariants as does
use Rattle.ci_stack.proofs.Placing.{trip}
use Rattle.ci_task.proofs.Coming.{mod_can, mod_does}
use Rattle.ci_task.proofs.hot.modulo.Goals as goal

abbrev given : ℤ → Outcome
given z = Ok (Int z)

pub last_number-divisor-requires : goal.last_number-divisor-requires
last_number-divisor-requires c = (mod_can c.args.code.now c.args.at c.args.stack.now c.args.heard.now c.requires.can).0

pub second_number-dividend-requires : goal.second_number-dividend-requires
second_number-dividend-requires c = (mod_can c.args.code.now c.args.at c.args.stack.now c.args.heard.now c.requires.can).1

pub returns-then-divisor-eq0 : goal.returns-then-divisor-eq0
returns-then-divisor-eq0 c = c.rare_at.ensures does.Mod c.requires.there

pub returns : goal.returns
returns c =
    let r : ℤ = to_z w32 (of_z w32 c.left_over.result) in
    let gave : remainder c.second_number-dividend.result c.last_number-divisor.result ≡ given r =
    ap (λ (z : ℤ). remainder z c.last_number-divisor.result) (sym (trip c.second_number-dividend.result c.second_number-dividend.type_inv))
    ∙ ap (λ (z : ℤ). remainder (to_z w32 (of_z w32 c.second_number-dividend.result)) z) (sym (trip c.last_number-divisor.result c.last_number-divisor.type_inv))
    ∙ c.left_over.ensures
    ∙ ap (λ (z : ℤ). given z) (sym (trip c.left_over.result c.left_over.type_inv)) in
    mod_does c.args.code.now c.args.at c.args.stack.now c.replace_by_number.new.self c.args.heard.now c.second_number-dividend.result c.last_number-divisor.result r c.last_number-divisor.ensures c.second_number-dividend.ensures gave c.replace_by_number.ensures
