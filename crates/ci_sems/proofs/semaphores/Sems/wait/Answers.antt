use Rattle.std.proofs.Common.{◌≡◌, ℤ, negsuc, pos, false, ap, arith, to_z, of_z, w32}
use Rattle.std.specs.Prelude.{int_lt}
use Rattle.std.specs.Ordering.{int_eq}
use Rattle.std.proofs.lemmas.Int.{ints, to_z-of_z}
use Rattle.std.proofs.lemmas.Bool.Decides.{Decides-int_eq}
use Rattle.ci_base.specs.declared.place.Place.TheVariants as places
use Rattle.ci_base.specs.declared.reply.Reply.TheVariants as replies
use Rattle.ci_shared.specs.Semaphores.{limit_in}
use Rattle.ci_sems.specs.Found.{Stands}
use Rattle.ci_sems.proofs.Arms.{int_apart, stands_in, wait_joins, wait_none, wait_takes}
use Rattle.ci_sems.proofs.semaphores.Sems.wait.Goals as goal

pub returns-then-count-gt0 : goal.returns-then-count-gt0
returns-then-count-gt0 c =
    let e : to_z w32 (of_z w32 c.args.number) ≡ c.args.number = to_z-of_z w32 c.args.number c.ranges.number in
    let s : Stands c.args.number c.args.self.now c.in-Some.at = stands_in c.args.number (to_z w32 (of_z w32 c.args.number)) c.in-Some.at c.as_slice.result.now c.self.inside.kept.items c.args.self.now e c.as_slice.ensures.value c.self.view_is c.in-Some.ensures in
    let allowed : int_lt c.args.limit (negsuc 0) ≡ false = rw (to_z-of_z w32 c.args.limit c.ranges.limit) at c.if-limit-ltminus1.false in
    wait_takes c.args.number c.args.limit c.args.now c.args.task c.in-Some.at c.args.self.now c.self.inside.kept.items c.args.lines.now c.index.result.now s c.self.view_is c.index.ensures allowed
    (replies.Answer c.coded-then-count-gt0.result) c.index_mut.result.now (ap (λ a. replies.Answer a) c.coded-then-count-gt0.ensures) c.index_mut.ensures.value c.if-count-gt0.true

pub returns-then-limit-eq0 : goal.returns-then-limit-eq0
returns-then-limit-eq0 c =
    let e : to_z w32 (of_z w32 c.args.number) ≡ c.args.number = to_z-of_z w32 c.args.number c.ranges.number in
    let s : Stands c.args.number c.args.self.now c.in-Some.at = stands_in c.args.number (to_z w32 (of_z w32 c.args.number)) c.in-Some.at c.as_slice.result.now c.self.inside.kept.items c.args.self.now e c.as_slice.ensures.value c.self.view_is c.in-Some.ensures in
    let allowed : int_lt c.args.limit (negsuc 0) ≡ false = rw (to_z-of_z w32 c.args.limit c.ranges.limit) at c.if-limit-ltminus1.false in
    let nothing : c.args.limit ≡ pos 0 = omega (arith, ints, c.ranges.limit, c.if-limit-eq0.true) in
    wait_none c.args.number c.args.limit c.args.now c.args.task c.in-Some.at c.args.self.now c.self.inside.kept.items c.args.lines.now c.index.result.now s c.self.view_is c.index.ensures allowed
    (replies.Answer c.coded-then-limit-eq0.result) (ap (λ a. replies.Answer a) c.coded-then-limit-eq0.ensures) c.if-count-gt0.false ((Decides-int_eq c.args.limit (pos 0)).1 nothing)

pub returns : goal.returns
returns c =
    let e : to_z w32 (of_z w32 c.args.number) ≡ c.args.number = to_z-of_z w32 c.args.number c.ranges.number in
    let s : Stands c.args.number c.args.self.now c.in-Some.at = stands_in c.args.number (to_z w32 (of_z w32 c.args.number)) c.in-Some.at c.as_slice.result.now c.self.inside.kept.items c.args.self.now e c.as_slice.ensures.value c.self.view_is c.in-Some.ensures in
    let allowed : int_lt c.args.limit (negsuc 0) ≡ false = rw (to_z-of_z w32 c.args.limit c.ranges.limit) at c.if-limit-ltminus1.false in
    let later : int_eq c.args.limit (pos 0) ≡ false = int_apart c.args.limit (pos 0) (λ h. c.if-limit-eq0.false (ap (λ (z : ℤ). of_z w32 z) h)) in
    let until : c.due_in.result ≡ limit_in c.args.now c.args.limit = rw (to_z-of_z w32 c.args.limit c.ranges.limit) at c.due_in.ensures in
    wait_joins c.args.number c.args.limit c.args.now c.args.task c.in-Some.at c.args.self.now c.self.inside.kept.items c.args.lines.now c.index.result.now s c.self.view_is c.index.ensures allowed
    c.join.new.self (places.Semaphore (to_z w32 (of_z w32 c.args.number))) c.due_in.result c.if-count-gt0.false later (ap (λ (z : ℤ). places.Semaphore z) e) until c.join.ensures
