-- Requests, with what becomes of the asker.
use Rattle.std.proofs.Common.{Contains, ◌≡◌, ℕ, zero, suc, ℤ, pos, negsuc, Bool, true, false, cond, List, [], ◌∷◌, length, Option, Some, None, refl, sym, ap, ◌∙◌, subst, inl, inr, map, true≢false, eq-eqb, eqb}
use Rattle.std.specs.Prelude.{slice_get, ◌==◌, nat_eq, nat_lt, nat_le, ◌||◌}
use Rattle.ci_base.specs.declared.bounds.TheConstants.{MOST_COUNT, MOST_OBJECTS}
use Rattle.ci_base.specs.declared.event.EventReply.{EventReply}
use Rattle.ci_base.specs.declared.place.Place.{Place}
use Rattle.ci_base.specs.declared.reply.Answer.{Answer}
use Rattle.ci_base.specs.declared.reply.Reply.{Reply}
use Rattle.ci_base.specs.declared.request.Request.{Request}
use Rattle.ci_base.specs.declared.task.Birth.{Birth}
use Rattle.ci_base.specs.declared.task.Delivery.{Delivery}
use Rattle.ci_base.specs.declared.value.Kind.{Kind}
use Rattle.ci_base.specs.declared.value.Value.{Value}
use Rattle.ci_base.specs.Requests.{Fits, IsPlainAnswer}
use Rattle.ci_base.specs.Values.{kind_of}
use Rattle.ci_shared.proofs.Fair.{Fair, fair_gone, fair_only, fair_waits, nobody}
use Rattle.ci_shared.proofs.Fit.{AreFit, SameOrWoke, answers_changes, given_fit}
use Rattle.ci_shared.proofs.Named.{first_named, none_named, the_one}
use Rattle.ci_shared.proofs.Seats.{leaves_seated, standing_set}
use Rattle.ci_shared.specs.Laws.{FitsPlace, IsFormed, Keeps, Other, Own, Same, seat_of, victims, woken}
use Rattle.ci_shared.specs.Roster.{Ended, Killed, Ready, Roster, Standing, Waiting, is_live, leaves, standing_at}
use Rattle.ci_shared.specs.Rows.{Answers, Attempt, Joins, Outcome, coded, element, given, plain}
use Rattle.ci_shared.specs.Serving.{apply}
use Rattle.ci_shared.specs.Started.{Basis}
use Rattle.ci_shared.specs.State.{Served, Shared, as_reply, attempted, said}
use Rattle.ci_shared.specs.Words.{is_empty, whole}
use Rattle.ci_shared.specs.declared.object.Item.{Item}
use Rattle.ci_shared.specs.declared.object.Section.{Section}
use Rattle.ci_shared.specs.declared.object.Semaphore.{Semaphore}
use Rattle.std.specs.Ordering.{int_eq}
use Rattle.std.specs.Prelude.{int_lt}
use Rattle.ci_base.specs.declared.place.Place.TheVariants as places
use Rattle.ci_base.specs.declared.reply.Reply.TheVariants as replies
use Rattle.ci_base.specs.declared.request.Request.TheVariants as requests
use Rattle.ci_shared.specs.Semaphores as sems
use Rattle.ci_shared.specs.Queues as queues
use Rattle.ci_shared.specs.Sections as sections
use Rattle.ci_shared.specs.Steps
use Rattle.ci_shared.proofs.Owed as rows

-- the answer fits the request, or each answer that fits the place does
abbrev pub Tells : Basis → Request → Outcome → Type 0
Tells l q (Answers a) = Fits l.kinds q a
Tells l q (Joins p limit) = (a : Answer) → FitsPlace p a → Fits l.kinds q a

pub record TellsRow {O : Type 0} (l : Basis) (q : Request) (r : Attempt O) : Type 0 where
  pub tells : Tells l q r.outcome

tells_if : {O : Type 0} (l : Basis) (q : Request) (b : Bool) (x y : Attempt O) → TellsRow l q x → TellsRow l q y → TellsRow l q (cond b x y)
tells_if l q true x y hx hy = hx
tells_if l q false x y hx hy = hy

-- an INT and nothing besides
plain_is : (y : EventReply) → IsPlainAnswer (plain y)
plain_is y = record { kind = refl; alone = refl }

same_is : (a : Answer) (y : EventReply) → a ≡ plain y → IsPlainAnswer a
same_is a y e = subst (λ (x : Answer). IsPlainAnswer x) (sym e) (plain_is y)

-- of a request that any value and code fit
plainly : {O : Type 0} (l : Basis) (q : Request) (xs : O) (y : EventReply) → (IsPlainAnswer (plain y) → Fits l.kinds q (plain y)) → TellsRow l q (given xs (plain y))
plainly l q xs y h = record { tells = h (plain_is y) }

wait_for_tells : (l : Basis) (z n h : ℤ) (now : ℕ) (xs : List Semaphore) (o : Option Semaphore) → TellsRow l (requests.SemWait z n) (sems.wait_at h n now xs o)
wait_for_tells l z n h now xs None = plainly l _ _ _ (λ e. e)
wait_for_tells l z n h now xs (Some x) =
    tells_if l _ (int_lt n (negsuc 0)) _ _ (plainly l _ _ _ (λ e. e))
    (tells_if l _ (nat_lt 0 x.count) _ _ (plainly l _ _ _ (λ e. e))
    (tells_if l _ (int_eq n (pos 0)) _ _ (plainly l _ _ _ (λ e. e))
    (record { tells = λ a f. same_is a (coded f.0) f.2 })))

-- no element comes with these codes
told : (l : Basis) (z mode : ℤ) (code : ℕ) → false ≡ (code == 0) → Fits l.kinds (requests.QueRead z mode) (plain (coded code))
told l z mode code e = record { kind = refl; element = e }

read_from_tells : (l : Basis) (z mode h : ℤ) (xs : List queues.Queue) (o : Option queues.Queue) → TellsRow l (requests.QueRead z mode) (queues.read_at h mode xs o)
read_from_tells l z mode h xs None = record { tells = told l z mode 1 refl }
read_from_tells l z mode h xs (Some x) = tells_if l _ (int_eq mode (pos 0) || int_eq mode (pos 1)) _ _ (front x.items) (record { tells = told l z mode 10 refl })
  where
    read_is : (sort : ℤ) (text : List ℕ) → Fits l.kinds (requests.QueRead z mode) (element sort text)
    read_is sort text = record { kind = refl; element = refl }

    fits : (a : Answer) → FitsPlace (places.Queue h) a → Fits l.kinds (requests.QueRead z mode) a
    fits a (inl e) = subst (λ (x : Answer). Fits l.kinds (requests.QueRead z mode) x) (sym e) (told l z mode 1 refl)
    fits a (inr e) = subst (λ (x : Answer). Fits l.kinds (requests.QueRead z mode) x) (sym e.2) (read_is e.0 e.1)

    front : (is : List Item) → TellsRow l (requests.QueRead z mode) (queues.take_at h mode xs is)
    front (i ∷ is) = record { tells = read_is i.sort i.text }
    front [] = tells_if l _ (int_eq mode (pos 0)) _ _ (record { tells = told l z mode 3 refl }) (record { tells = fits })

enter_of_tells : (l : Basis) (u : ℕ) (name : List ℕ) (xs : List Section) (o : Option Section) → TellsRow l (requests.Enter name) (sections.enter_at u name xs o)
enter_of_tells l u name xs None = tells_if l _ (nat_le MOST_OBJECTS (length xs)) _ _ (plainly l _ _ _ (λ e. e)) (plainly l _ _ _ (λ e. e))
enter_of_tells l u name xs (Some x) =
    tells_if l _ (nat_eq x.owner u) _ _
    (tells_if l _ (nat_le MOST_COUNT x.count) _ _ (plainly l _ _ _ (λ e. e)) (plainly l _ _ _ (λ e. e)))
    (record { tells = λ a e. same_is a (coded 0) e })

enter_tells : (l : Basis) (u : ℕ) (name : List ℕ) (xs : List Section) → TellsRow l (requests.Enter name) (sections.enter u name xs)
enter_tells l u name xs = tells_if l _ (is_empty name) _ _ (plainly l _ _ _ (λ e. e)) (enter_of_tells l u name xs (sections.section_of name xs))

sleep_tells : (l : Basis) (q : Request) → ((a : Answer) → IsPlainAnswer a → Fits l.kinds q a) → (now : ℕ) (n : ℤ) (unit : ℕ) → Tells l q (Steps.sleep now n unit)
sleep_tells l q h now (negsuc n) unit = h _ (plain_is (coded 10))
sleep_tells l q h now (pos zero) unit = h _ (plain_is (coded 0))
sleep_tells l q h now (pos (suc n)) unit = λ a e. h a (same_is a (coded 0) e)

-- a request is served as it should be
pub record Lawful (l : Basis) (u : ℕ) (q : Request) (s : Shared) (x : Served Reply) : Type 0 where
  pub fair : Fair Reply (IsFormed l q) l (victims q) u s x
  pub own : IsFormed l q → (s' : Standing) × (standing_at x.shared.roster u ≡ Some s') × Own l q x.reply s' × (woken u x.deliveries ≡ [])

ready_waits : (p : Place) → Ready ≡ Waiting p → ⊥
ready_waits p e = cc

module _ (l : Basis) (s : Shared) (k : Keeps l s) (u : ℕ) (ready : standing_at s.roster u ≡ Some Ready) where
  -- the asker is untouched, and answered
  lawful : (q : Request) (new : Shared) (a : Answer) (ds : List Delivery) (b : Option Birth) → (Contains (victims q) u → ⊥) → (IsFormed l q → Fits l.kinds q a) → Fair Reply (IsFormed l q) l (victims q) 0 s (record { shared = new; reply = replies.Answer a; deliveries = ds; birth = b }) →
      Lawful l u q s (record { shared = new; reply = replies.Answer a; deliveries = ds; birth = b })
  lawful q new a ds b alive fits f = record {
    fair = record { others = λ t st n is. f.others t st (nobody s.roster t st is) is; keeps = f.keeps; answers = f.answers; grows = f.grows };
    own = λ formed.
        let (s', at, o) = f.others u Ready (nobody s.roster u Ready ready) ready in
        let same_one : Same Ready s' (woken u ds) = untouched s' (woken u ds) o in
        (s', at, (same_one.0, fits formed), same_one.1);
  }
    where
      untouched : (s' : Standing) (g : List Answer) → Other (victims q) u Ready s' g → Same Ready s' g
      untouched s' g (inl h) = h
      untouched s' g (inr (inl h)) = absurd (ready_waits h.0 h.2)
      untouched s' g (inr (inr h)) = absurd (alive h.0)

  -- the asker gets a value and a code
  lawful_told : (q : Request) (x : Served EventReply) → (Contains (victims q) u → ⊥) → ((y : EventReply) → Fits l.kinds q (plain y)) → Fair EventReply (IsFormed l q) l (victims q) 0 s x → Lawful l u q s (as_reply x)
  lawful_told q x alive fits f = lawful q x.shared (plain x.reply) x.deliveries x.birth alive (λ formed. fits x.reply) (record { others = f.others; keeps = f.keeps; answers = f.answers; grows = f.grows })

  -- the asker gets an answer, or waits; nothing else changes but objects
  lawful_outcome : (q : Request) (new : Shared) (o : Outcome) → (Contains (victims q) u → ⊥) → new.roster ≡ s.roster → map kind_of new.cells ≡ l.kinds → (IsFormed l q → Tells l q o) → Lawful l u q s (attempted new u o)
  lawful_outcome q new (Answers a) alive e kinds fits = lawful q new a [] None alive fits (fair_only l s k (IsFormed l q) (victims q) 0 new (replies.Answer a) e (λ formed. kinds))
  lawful_outcome q new (Joins p limit) alive e kinds fits = record {
    fair = fair_waits l s k (IsFormed l q) (victims q) u new p limit ready e kinds;
    own = λ formed. (Waiting p, standing_set new.roster.tasks u Ready (Waiting p) (ap (λ (c : Roster). standing_at c u) e ∙ ready), (p, refl, fits formed), refl);
  }

  lawful_gone : (q : Request) (y : Standing) → seat_of (Some y) ≡ [] → is_live y ≡ false → Lawful l u q s (Steps.gone y u s replies.Ends)
  lawful_gone q y out dead = record {
    fair = fair_gone l s k (IsFormed l q) (victims q) u _ _ y u ds out dead (inr refl) refl k.kinds fit;
    own = λ formed.
        let (s', at, h) = answers_changes ds (leaves y u s.roster) u y fit (standing_set s.roster.tasks u Ready y ready) in
        let same_one : Same y s' (woken u ds) = stays s' (woken u ds) h in
        (s', at, ap (λ (z : Standing). is_live z) same_one.0 ∙ dead, same_one.1);
  }
    where
      ds : List Delivery
      ds = (sections.depart_all u s.sections (leaves y u s.roster).waiting).deliveries

      fit : AreFit (leaves y u s.roster) ds
      fit = given_fit (λ x. nat_eq x.owner u) s.sections (leaves y u s.roster) (leaves_seated s.roster u y out k.seated)

      stays : (s' : Standing) (g : List Answer) → SameOrWoke y s' g → Same y s' g
      stays s' g (inl h) = h
      stays s' g (inr h) = let bad : h.0 ∷ [] ≡ [] = sym (ap (λ (z : Standing). seat_of (Some z)) h.2) ∙ out in absurd (cc bad)

  read_tells : (cell : ℕ) (o : Option Value) → slice_get s.cells cell ≡ o → IsFormed l (requests.Read cell) → Tells l (requests.Read cell) (Steps.read o)
  read_tells cell None e formed = absurd (cc bad)
    where
      none : (cells : List Value) (n : ℕ) → slice_get cells n ≡ None → slice_get (map kind_of cells) n ≡ None
      none [] n e = refl
      none (c ∷ cs) zero e = absurd (cc)
      none (c ∷ cs) (suc n) e = none cs n e

      bad : None ≡ Some formed.0
      bad = sym (none s.cells cell e) ∙ ap (λ (z : List Kind). slice_get z cell) k.kinds ∙ formed.1
  read_tells cell (Some v) e formed = record { kind = ap (λ (z : List Kind). slice_get z cell) (sym k.kinds) ∙ kind_at s.cells cell e; good = refl; alone = refl }
    where
      kind_at : (cells : List Value) (n : ℕ) → slice_get cells n ≡ Some v → slice_get (map kind_of cells) n ≡ Some (kind_of v)
      kind_at [] n e = absurd (cc)
      kind_at (c ∷ cs) zero e = let here : c ≡ v = cc e in ap (λ (z : Value). Some (kind_of z)) here
      kind_at (c ∷ cs) (suc n) e = kind_at cs n e

  write_lawful : (cell : ℕ) (v : Value) → Lawful l u (requests.Write cell v) s (said (Steps.written s cell v) (coded 0))
  write_lawful cell v = lawful (requests.Write cell v) (Steps.written s cell v) (plain (coded 0)) [] None (none_named u) (λ formed. refl) (fair_only l s k _ [] 0 _ _ refl (λ formed. rows.kinds_set s.cells cell v (kind_of v) refl (ap (λ (z : List Kind). slice_get z cell) k.kinds ∙ formed) ∙ k.kinds))

  kill_lawful : (n : ℤ) (b : Bool) → eqb (whole n) u ≡ b → Lawful l u (requests.TaskKill n) s (cond b (Steps.gone Killed u s replies.Ends) (as_reply (Steps.kill s (whole n))))
  kill_lawful n true e = lawful_gone (requests.TaskKill n) Killed refl refl
  kill_lawful n false e = lawful_told (requests.TaskKill n) _ alive plain_is (rows.kill_fair l s k _ _ 0 (whole n) (first_named (whole n) []))
    where
      alive : Contains (whole n ∷ []) u → ⊥
      alive named = true≢false (sym (eq-eqb (whole n) u (the_one (whole n) u named)) ∙ e)

  -- all requests
  pub asked_lawful : (q : Request) → Lawful l u q s (apply l s u q)
  unfolding apply
  asked_lawful (requests.Read cell) = lawful_outcome (requests.Read cell) s (Steps.read (slice_get s.cells cell)) (none_named u) refl k.kinds (read_tells cell (slice_get s.cells cell) refl)
  asked_lawful (requests.Write cell v) = write_lawful cell v
  asked_lawful (requests.TaskNew name list mode) = lawful_told _ _ (none_named u) plain_is (rows.start_fair l s k _ [] 0 name list)
  asked_lawful (requests.TaskKill n) = kill_lawful n (nat_eq (whole n) u) refl
  asked_lawful (requests.TaskSuspend n) = lawful_told _ _ (none_named u) plain_is (rows.mark_fair l s k _ [] 0 true (whole n))
  asked_lawful (requests.TaskResume n) = lawful_told _ _ (none_named u) plain_is (rows.mark_fair l s k _ [] 0 false (whole n))
  asked_lawful (requests.TaskHnd name) = lawful_told _ _ (none_named u) plain_is (rows.still l s k _ [] 0 s _ refl k.kinds)
  asked_lawful (requests.Sleep n) = lawful_outcome (requests.Sleep n) s _ (none_named u) refl k.kinds (λ formed. sleep_tells l (requests.Sleep n) (λ a e. e) s.clock n 1000)
  asked_lawful (requests.SleepMS n) = lawful_outcome (requests.SleepMS n) s _ (none_named u) refl k.kinds (λ formed. sleep_tells l (requests.SleepMS n) (λ a e. e) s.clock n 1)
  asked_lawful (requests.SemOpen name mode) = lawful_told _ _ (none_named u) plain_is (rows.still l s k _ [] 0 _ _ refl k.kinds)
  asked_lawful (requests.SemWait h n) = lawful_outcome (requests.SemWait h n) _ _ (none_named u) refl k.kinds (λ formed. (wait_for_tells l h n h s.clock s.semaphores (sems.semaphore_of h s.semaphores)).tells)
  asked_lawful (requests.SemSignal h) = lawful_told _ _ (none_named u) plain_is (rows.by_semaphores_fair l s k _ [] 0 _ (rows.signal_fit s.roster k.seated h s.semaphores))
  asked_lawful (requests.SemClose h) = lawful_told _ _ (none_named u) plain_is (rows.by_semaphores_fair l s k _ [] 0 _ (rows.sem_close_fit s.roster k.seated h s.semaphores))
  asked_lawful (requests.QueOpen name mode) = lawful_told _ _ (none_named u) plain_is (rows.still l s k _ [] 0 _ _ refl k.kinds)
  asked_lawful (requests.QueWrite h sort text) = lawful_told _ _ (none_named u) plain_is (rows.by_queues_fair l s k _ [] 0 _ (rows.write_fit s.roster k.seated h sort text s.queues))
  asked_lawful (requests.QueRead h mode) = lawful_outcome (requests.QueRead h mode) _ _ (none_named u) refl k.kinds (λ formed. (read_from_tells l h mode h s.queues (queues.queue_of h s.queues)).tells)
  asked_lawful (requests.QueLength h) = lawful_told _ _ (none_named u) plain_is (rows.still l s k _ [] 0 s _ refl k.kinds)
  asked_lawful (requests.QueClose h) = lawful_told _ _ (none_named u) plain_is (rows.by_queues_fair l s k _ [] 0 _ (rows.que_close_fit s.roster k.seated h s.queues))
  asked_lawful (requests.Enter name) = lawful_outcome (requests.Enter name) _ _ (none_named u) refl k.kinds (λ formed. (enter_tells l u name s.sections).tells)
  asked_lawful (requests.Leave name) = lawful_told _ _ (none_named u) plain_is (rows.by_sections_fair l s k _ [] 0 _ (rows.depart_fit s.roster k.seated u name s.sections))
  asked_lawful (requests.Trace text) = lawful_told _ _ (none_named u) plain_is (rows.still l s k _ [] 0 s _ refl k.kinds)
  asked_lawful requests.SysTime = lawful_told _ _ (none_named u) plain_is (rows.still l s k _ [] 0 s _ refl k.kinds)
  asked_lawful (requests.End code) = lawful_gone (requests.End code) (Ended code) refl refl
