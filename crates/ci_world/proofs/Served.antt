-- Trails grow by what the last entry brings.
use Rattle.std.proofs.Common.{◌≡◌, ◌≢◌, ℕ, List, [], ◌∷◌, ◌++◌, Bool, cond, Option, None, Some, ne_eqb, eq-eqb, refl, sym, ap, ◌∙◌}
use Rattle.ci_base.specs.declared.entry.Entry.{Entry}
use Rattle.ci_base.specs.declared.reply.Answer.{Answer}
use Rattle.ci_base.specs.declared.reply.Reply.{Reply}
use Rattle.ci_base.specs.declared.reply.Reply.TheVariants as replies
use Rattle.ci_base.specs.declared.task.Birth.{Birth}
use Rattle.ci_base.specs.declared.task.Delivery.{Delivery}
use Rattle.ci_base.specs.declared.task.Trail.{Trail}
use Rattle.ci_shared.specs.Laws.{woken}
use Rattle.ci_world.specs.Trails.{told, common_from, common_after, with_answers, next_by, next_trail, no_trail, trail_from, trail}
use Rattle.ci_world.specs.World.{Origin, Common, opening_common, answer_to}

common_snoc_from : (o : Origin) (c : Common) (h : List Entry) (e : Entry) → common_from o c (h ++ e ∷ []) ≡ (told o (common_from o c h) e).common
common_snoc_from o c [] e = refl
common_snoc_from o c (x ∷ xs) e = common_snoc_from o (told o c x).common xs e

pub common_snoc : (o : Origin) (h : List Entry) (e : Entry) → common_after o (h ++ e ∷ []) ≡ (told o (common_after o h) e).common
common_snoc o h e = common_snoc_from o (opening_common o) h e

trail_snoc_from : (o : Origin) (c : Common) (t : ℕ) (x : Trail) (h : List Entry) (e : Entry) → trail_from o c t x (h ++ e ∷ []) ≡ next_trail t (trail_from o c t x h) (told o (common_from o c h) e)
trail_snoc_from o c t x [] e = refl
trail_snoc_from o c t x (y ∷ ys) e = trail_snoc_from o (told o c y).common t (next_trail t x (told o c y)) ys e

-- the trail after one entry more
pub trail_snoc : (o : Origin) (t : ℕ) (h : List Entry) (e : Entry) → trail o t (h ++ e ∷ []) ≡ next_trail t (trail o t h) (told o (common_after o h) e)
unfolding trail
trail_snoc o t h e = trail_snoc_from o (opening_common o) t no_trail h e

-- another task is born, or none
abbrev pub IsNotBorn : ℕ → Option Birth → Type 0
IsNotBorn t None = Unit {0}
IsNotBorn t (Some b) = b.task ≢ t

-- then a task gets its answers alone
pub older : (t : ℕ) (x : Trail) (more : List Answer) (b : Option Birth) → IsNotBorn t b → next_by t x more b ≡ with_answers x more
older t x more None n = refl
older t x more (Some b) n = ap (λ (z : Bool). cond z (record { birth = Some b; answers = [] }) (with_answers x more)) (ne_eqb b.task t n)

-- a task that is born
pub born : (t : ℕ) (x : Trail) (more : List Answer) (b : Birth) → b.task ≡ t → next_by t x more (Some b) ≡ record { birth = Some b; answers = [] }
born t x more b e = ap (λ (z : Bool). cond z (record { birth = Some b; answers = [] }) (with_answers x more)) (eq-eqb b.task t e)

-- what a reply brings to the asker, and to the others
abbrev pub answers_of : Reply → List Answer
answers_of (replies.Answer a) = a ∷ []
answers_of replies.Waits = []
answers_of replies.Ends = []

pub asker_woken : (u : ℕ) (r : Reply) (ds : List Delivery) → woken u ds ≡ [] → woken u (answer_to u r ++ ds) ≡ answers_of r
asker_woken u (replies.Answer a) ds none = ap (λ (z : Bool). cond z (a ∷ woken u ds) (woken u ds)) (eq-eqb u u refl) ∙ ap (λ (l : List Answer). a ∷ l) none
asker_woken u replies.Waits ds none = none
asker_woken u replies.Ends ds none = none

pub other_woken : (t u : ℕ) (r : Reply) (ds : List Delivery) → t ≢ u → woken t (answer_to u r ++ ds) ≡ woken t ds
other_woken t u (replies.Answer a) ds n = ap (λ (z : Bool). cond z (a ∷ woken t ds) (woken t ds)) (ne_eqb u t (λ e. n (sym e)))
other_woken t u replies.Waits ds n = refl
other_woken t u replies.Ends ds n = refl
