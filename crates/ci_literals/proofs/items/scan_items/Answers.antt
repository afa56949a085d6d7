use Rattle.std.proofs.Common.{◌≡◌, ◌++◌, [], ◌∷◌, length, sym, refl, ap, ◌∙◌, arith, append_assoc, length-append}
use Rattle.ci_base.specs.Texts.AreItems.{none}
use Rattle.ci_literals.proofs.Cuts.{items_push}
use Rattle.ci_literals.proofs.items.scan_items.Goals as goal

pub items-init : goal.items-init
items-init c = record { items = []; are = rw c.requires none; split = refl }

pub returns-in_default : goal.returns-in_default
returns-in_default c =
    let before = c.items.invariant in
    let item = c.in-Byte.ensures in
    let full : length c.items.value.items ≡ 255 = c.in_default.ensures.full in (
      before.items ++ item.0,
      c.in-Byte.rest.now,
      c.items.value.items ++ c.in-Byte.b ∷ [],
      items_push before.items c.items.value.items item.0 c.in-Byte.b before.are item.1,
      before.split ∙ ap (λ l. before.items ++ l) item.2 ∙ sym (append_assoc before.items item.0 c.in-Byte.rest.now),
      omega (arith, length-append c.items.value.items (c.in-Byte.b ∷ []), full),
    )

pub items-preserved : goal.items-preserved
items-preserved c =
    let before = c.items.invariant in
    let item = c.in-Byte.ensures in
    record {
      items = before.items ++ item.0;
      are = rw c.in-Ok.ensures.ok (items_push before.items c.items.value.items item.0 c.in-Byte.b before.are item.1);
      split = before.split ∙ ap (λ l. before.items ++ l) item.2 ∙ sym (append_assoc before.items item.0 c.in-Byte.rest.now);
    }
