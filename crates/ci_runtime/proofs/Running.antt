-- Rounds, one after another.
use Rattle.std.proofs.Common.{◌≡◌, ℕ, zero, suc, List, map, refl, sym, ap, ◌∙◌, subst}
use Rattle.ci_base.specs.declared.entry.Entry.{Entry}
use Rattle.ci_base.specs.declared.layout.Layout.{Layout}
use Rattle.ci_base.specs.declared.limits.Ending.{Ending}
use Rattle.ci_base.specs.declared.limits.Ending.TheVariants as endings
use Rattle.ci_base.specs.declared.limits.Limits.{Limits}
use Rattle.ci_base.specs.declared.limits.Turn.{Turn}
use Rattle.ci_base.specs.declared.limits.Turn.TheVariants as turns
use Rattle.ci_base.specs.declared.list.Loose.{Loose}
use Rattle.ci_code.specs.declared.raw.RawParts.{RawParts}
use Rattle.ci_history.specs.declared.end.EndState.{EndState}
use Rattle.ci_runtime.proofs.Closing.{spent}
use Rattle.ci_runtime.proofs.Keeping.{layout_is}
use Rattle.ci_runtime.proofs.Rounding.{common_is, work_in}
use Rattle.ci_runtime.specs.Counting.{Counts}
use Rattle.ci_runtime.specs.declared.board.Board.{Board}
use Rattle.ci_runtime.specs.declared.ended.Ended.{Ended}
use Rattle.ci_runtime.specs.Desks.{DeskState, DeskValue, GoesBy, IsKept, IsSame, RoundFrom, desk_of, opening_desk, state, work_of}
use Rattle.ci_runtime.specs.EndStates.{end_state, task_end}
use Rattle.ci_runtime.specs.Runs.{EndsSo, IsEnd, IsRun, RoundsFrom}
use Rattle.ci_shared.specs.Started.{Basis}
use Rattle.ci_shared.specs.State.{Shared}
use Rattle.ci_translation.specs.Translation.{translation}
use Rattle.ci_world.proofs.Sound.{serial_sound}
use Rattle.ci_world.specs.Serial.{Progress, Round, Rounds, Serial, loose, opening_progress}
use Rattle.ci_world.specs.Trails.{common_after}
use Rattle.ci_world.specs.Work.{Ends, EndsAs, FitsLoose, loose_of, work}
use Rattle.ci_world.specs.World.{Common, Origin, Run}

rounds_snoc : (o : Origin) (limits : Limits) (n : ℕ) (s mid s' : Progress) → Rounds o limits n s mid → Round o limits mid s' → Rounds o limits (suc n) s s'
rounds_snoc o limits zero s mid s' same r = (s', subst (λ (x : Progress). Round o limits x s') same r, refl)
rounds_snoc o limits (suc n) s mid s' (next, one, more) r = (next, one, rounds_snoc o limits n next mid s' more r)

pub rounds_begin : (d : DeskState) → RoundsFrom d d
rounds_begin d s is = (s, (0, refl), is)

round_same : (d now : DeskState) (s s' : Progress) → IsSame d now → Round now.origin now.limits s s' → Round d.origin d.limits s s'
round_same d now s s' same r = subst (λ (l : Limits). Round d.origin l s s') same.limits (subst (λ (o : Origin). Round o now.limits s s') same.origin r)

pub rounds_go : (d now new : DeskState) → RoundsFrom d now → IsSame d now → RoundFrom now turns.Went new → RoundsFrom d new
rounds_go d now new so same round s is =
    let (mid, (n, made), at) = so s is in
    let (s1, r, at1) = round mid at in
    (s1, (suc n, rounds_snoc d.origin d.limits n s mid s1 made (round_same d now mid s1 same r)), at1)

-- a round that finds the budget used leaves the desk as it was
pub spent_ends : (old new : DeskValue) (turn : Turn) → turn ≡ turns.Spent → ((turn ≡ turns.Went → ⊥) → new ≡ old) → GoesBy (state old) turn → EndsSo (state new) endings.Spent
spent_ends old new turn is still goes =
    let same : new ≡ old = still (λ went. not_went (sym went ∙ is)) in
    subst (λ (d : DeskValue). EndsSo (state d) endings.Spent) (sym same) (spent (state old) (subst (λ (t : Turn). GoesBy (state old) t) is goes))
  where
    not_went : turns.Went ≡ turns.Spent → ⊥
    not_went e = cc e

-- how a run stands with this shared state
abbrev pub end_with : Basis → Shared → ℕ → ℕ → Ending → EndState
end_with b s worked instructions ending = record { tasks = map (task_end b s) s.roster.tasks; work = worked; instructions = instructions; ending = ending }

-- the names of the functions are those of the code
pub heads_are : (o : Origin) (code : RawParts) (limits : Limits) (b : Board) → IsKept o code limits b → code.layout.functions ≡ b.store.basis.functions
heads_are o code limits b k = ap (λ (l : Layout). l.functions) (layout_is o code k.has_code) ∙ ap (λ (x : Basis). x.functions) (sym k.basis_is)

-- what is kept of a desk
end_of_board : (o : Origin) (code : RawParts) (limits : Limits) (b : Board) (e : Ended) (worked instructions : ℕ) (ending : Ending) → IsKept o code limits b → e.history.entries ≡ b.notes.entries →
    e.loose ≡ loose_of b.notes.ticks → e.end ≡ end_with b.store.basis b.store.shared worked instructions ending → worked ≡ work_of (desk_of o limits b) →
    Counts (translation o.project) o b.notes.entries instructions → EndsSo (desk_of o limits b) ending → IsEnd (desk_of o limits b) e
end_of_board o code limits b e worked instructions ending k history loose_are end worked_is counts so =
    let count : instructions ≡ e.end.instructions = sym (ap (λ (x : EndState). x.instructions) end) in
    let ends : ending ≡ e.end.ending = sym (ap (λ (x : EndState). x.ending) end) in
    record {
      history_is = history;
      loose_are = loose_are;
      instructions_are = subst (λ (n : ℕ). Counts (translation o.project) o b.notes.entries n) count counts;
      ends = subst (λ (x : Ending). EndsSo (desk_of o limits b) x) ends so;
      end_is = end ∙ (λ i. end_with (k.basis_is i) (k.shared_is i) (worked_is i) (count i) (ends i));
    }

pub is_end : (d : DeskState) (o : Origin) (code : RawParts) (limits : Limits) (b : Board) (e : Ended) (worked instructions : ℕ) (ending : Ending) → IsKept o code limits b → desk_of o limits b ≡ d →
    e.history.entries ≡ b.notes.entries → e.loose ≡ loose_of b.notes.ticks → e.end ≡ end_with b.store.basis b.store.shared worked instructions ending → worked ≡ work_of d →
    Counts (translation d.origin.project) d.origin d.history instructions → EndsSo d ending → IsEnd d e
is_end d o code limits b e worked instructions ending k same history loose_are end worked_is counts so =
    subst (λ (x : DeskState). IsEnd x e) same
    (end_of_board o code limits b e worked instructions ending k history loose_are end (worked_is ∙ ap work_of (sym same))
    (subst (λ (x : DeskState). Counts (translation x.origin.project) x.origin x.history instructions) (sym same) counts) (subst (λ (x : DeskState). EndsSo x ending) (sym same) so))

-- a run from its beginning on
pub is_run : (o : Origin) (limits : Limits) (d : DeskState) (e : Ended) → RoundsFrom (opening_desk o limits) d → IsSame (opening_desk o limits) d → IsEnd d e → IsRun o limits e
is_run o limits d e rounds same end =
    let (s, (n, made), is) = rounds (opening_progress o) (record { run = refl; history = refl; ticks = refl; last = refl }) in
    let com' : s.world.common ≡ common_after d.origin d.history = common_is d s is in
    let ends : EndsAs s.world.common (work s.history (loose s)) limits.budget e.end.ending =
    subst (λ (c : Common). EndsAs c (work s.history (loose s)) limits.budget e.end.ending) (sym com')
    (subst (λ (m : ℕ). EndsAs (common_after d.origin d.history) m limits.budget e.end.ending) (sym (work_in d s is))
    (subst (λ (l : Limits). EndsAs (common_after d.origin d.history) (work_of d) l.budget e.end.ending) same.limits end.ends)) in
    let serial : Serial o limits s e.end.ending = (n, made, ends) in
    let sound = serial_sound o limits s e.end.ending serial in
    let h_is : s.history ≡ e.history.entries = is.history ∙ sym end.history_is in
    let l_is : loose s ≡ e.loose = ap loose_of is.ticks ∙ sym end.loose_are in
    let d_is : d.history ≡ e.history.entries = sym end.history_is in
    record {
      serial = record {
        serial = s;
        rounds = serial;
        history_is = h_is;
        loose_are = l_is;
        run = subst (λ (h : List Entry). Run o h s.world) h_is sound.0;
        fits = subst (λ (l : List Loose). FitsLoose o s.world l) l_is sound.1;
        ends = subst (λ (h : List Entry). Ends s.world h e.loose limits.budget e.end.ending) h_is (subst (λ (l : List Loose). Ends s.world s.history l limits.budget e.end.ending) l_is sound.2);
        instructions_are = subst (λ (h : List Entry). Counts (translation o.project) o h e.end.instructions) d_is (subst (λ (x : Origin). Counts (translation x.project) x d.history e.end.instructions) same.origin end.instructions_are);
      };
      end_is = end.end_is ∙ (λ i. end_state (same.origin i) (d_is i) (sym end.loose_are i) e.end.instructions e.end.ending);
    }
