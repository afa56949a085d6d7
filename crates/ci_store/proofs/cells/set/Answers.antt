use Rattle.std.proofs.Common.{◌≡◌, ◌∙◌, ℕ, Bool, List, Some, sym, ap, get_or}
use Rattle.std.specs.Prelude.{slice_get, slice_set}
use Rattle.std.specs.List.{position_from}
use Rattle.std.specs.Str.{str_eq_ignore_ascii_case}
use Rattle.ci_base.specs.declared.layout.Global.{Global}
use Rattle.ci_base.specs.declared.value.Value.{Value}
use Rattle.ci_shared.specs.Steps.{cell_named}
use Rattle.ci_store.proofs.Celled.{cell_is, cell_none, is_set, other_kind, unknown_cell}
use Rattle.ci_store.proofs.cells.set.Goals as goal
use Rattle.ci_store.proofs.cells.set.Goals.{After-is_same_kind}

abbrev named : List ℕ → Global → Bool
named name x = str_eq_ignore_ascii_case name x.name

-- the cell of the one that is found
found : (c : After-is_same_kind) → cell_named c.args.name.now c.args.parts.now.layout.globals ≡ Some c.index-globals-at.result.cell
found c =
    let gs = c.args.parts.now.layout.globals in
    let first : c.at_name.result ≡ position_from (named c.args.name.now) 0 gs = c.at_name.ensures.first ∙ ap (λ (l : List Global). position_from (named c.args.name.now) 0 l) c.members-globals.ensures in
    cell_is c.args.name.now gs c.in-Some.at c.index-globals-at.result (sym first ∙ c.in-Some.is)
    (c.index-globals-at.is ∙ ap (λ (l : List Global). get_or l c.in-Some.at c.index-globals-at.result) c.members-globals.ensures)

there : (c : After-is_same_kind) → slice_get c.args.parts.now.vars c.index-globals-at.result.cell ≡ Some c.read.result
there c = ap (λ (g : Global). slice_get c.args.parts.now.vars g.cell) c.index-globals-at.is ∙ c.read.ensures

pub returns-in_default : goal.returns-in_default
returns-in_default c =
    let p = c.args.parts.now in
    let first : c.at_name.result ≡ position_from (named c.args.name.now) 0 p.layout.globals = c.at_name.ensures.first ∙ ap (λ (l : List Global). position_from (named c.args.name.now) 0 l) c.members-globals.ensures in
    unknown_cell p c.requires c.args.value.now (cell_named c.args.name.now p.layout.globals) c.coded.result (cell_none c.args.name.now p.layout.globals (sym first ∙ c.in_default.is)) c.coded.ensures

pub returns-then-not-is_same_kind : goal.returns-then-not-is_same_kind
returns-then-not-is_same_kind c =
    let p = c.args.parts.now in
    let b = (goal.at.returns-then-not-is_same_kind c).After-is_same_kind in
    other_kind p c.requires c.args.value.now (cell_named c.args.name.now p.layout.globals) c.index-globals-at.result.cell c.read.result (found b) (there b) c.coded-then-not-is_same_kind.result (sym c.if-not-is_same_kind.ensures) c.coded-then-not-is_same_kind.ensures

pub returns : goal.returns
returns c =
    let p = c.args.parts.now in
    let b = (goal.at.returns c).After-is_same_kind in
    is_set p c.requires c.args.value.now (cell_named c.args.name.now p.layout.globals) c.index-globals-at.result.cell c.read.result (found b) (there b) c.coded-2.result c.write.new.self (sym c.if-not-is_same_kind.ensures) c.coded-2.ensures
    (c.write.ensures ∙ ap (λ (v : Value). slice_set p.vars (get_or c.members-globals.result.now c.in-Some.at c.index-globals-at.result).cell v) c.copy.ensures ∙ ap (λ (g : Global). slice_set p.vars g.cell c.args.value.now) (sym c.index-globals-at.is))
