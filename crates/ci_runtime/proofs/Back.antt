-- What a machine that has come along a task's trail does, the task does on the tree.
use Rattle.std.proofs.Common.{◌≡◌, ℕ, List, [], ◌∷◌, map, Some, slice_get, zero, suc, refl, sym, ap, ◌∙◌, subst}
use Rattle.ci_base.specs.declared.entry.Entry.{Entry}
use Rattle.ci_base.specs.declared.layout.CellHead.{CellHead}
use Rattle.ci_base.specs.declared.layout.Head.{Head}
use Rattle.ci_base.specs.declared.layout.Layout.{Layout}
use Rattle.ci_base.specs.declared.reply.Answer.{Answer}
use Rattle.ci_base.specs.declared.request.Request.{Request}
use Rattle.ci_base.specs.declared.task.Birth.{Birth}
use Rattle.ci_base.specs.declared.task.Trail.{Trail}
use Rattle.ci_base.specs.declared.value.Kind.{Kind}
use Rattle.ci_base.specs.Requests.{Fits}
use Rattle.ci_base.specs.Steps.{Stands, Reaches}
use Rattle.ci_code.specs.declared.raw.RawParts.{RawParts}
use Rattle.ci_code.specs.Machine as code
use Rattle.ci_code.specs.Moves.{Machine}
use Rattle.ci_translation.specs.Alike.{Led}
use Rattle.ci_translation.specs.Simulates.{Follows, Simulates, cell_kinds}
use Rattle.ci_meaning.specs.Configuration.{Configuration, opening}
use Rattle.ci_meaning.specs.Meaning as tree
use Rattle.ci_runtime.proofs.Alike.{asks_back, ticks_back}
use Rattle.ci_runtime.specs.Along.{Along, IsBorn, kinds}
use Rattle.ci_runtime.specs.Laws.{DoesTheSame}
use Rattle.ci_shared.specs.Roster.{Ready, standing_at}
use Rattle.ci_tree.specs.Bound.{Cell, Function, Project}
use Rattle.ci_tree.specs.Layouts.{cell_head_of, head_of, layout_of}
use Rattle.ci_world.proofs.Follow.{follows_run}
use Rattle.ci_world.proofs.Lists.{one_at}
use Rattle.ci_world.proofs.Machines.{one_stand, one_request}
use Rattle.ci_world.specs.Follow.{Comes, ComesAlong}
use Rattle.ci_world.specs.Lists.{at_task}
use Rattle.ci_world.specs.Trails.{trail}
use Rattle.ci_world.specs.World.{Origin, World, Run}

-- the cells of the code have the kinds of the project's
cells_same : (cells : List Cell) → map (λ (x : CellHead). x.kind) (map cell_head_of cells) ≡ map (λ (x : Cell). x.kind) cells
cells_same [] = refl
cells_same (x ∷ xs) = ap (λ (l : List Kind). x.kind ∷ l) (cells_same xs)

kinds_same : (parts : RawParts) (p : Project) → parts.layout ≡ layout_of p → kinds parts ≡ cell_kinds p
kinds_same parts p e = ap (λ (l : Layout). map (λ (x : CellHead). x.kind) l.cells) e ∙ cells_same p.cells

-- a head of the code is that of a function of the project
head_from : (fs : List Function) (n : ℕ) (h : Head) → slice_get (map head_of fs) n ≡ Some h → (f : Function) × (slice_get fs n ≡ Some f) × (head_of f ≡ h)
head_from [] n h e = absurd (cc)
head_from (f ∷ fs) zero h e = (f, refl, cc)
head_from (f ∷ fs) (suc n) h e = head_from fs n h e

module _ (parts : RawParts) (p : Project) (sim : Simulates parts p) (layout : parts.layout ≡ layout_of p) where
  -- both are started
  started : (b : Birth) → IsBorn parts b → Follows parts p (opening p b.function b.args) (code.opening parts b.function b.args)
  started b (h, found, fit) =
      let (f, at, is) = head_from p.functions b.function h (ap (λ (l : Layout). slice_get l.functions b.function) (sym layout) ∙ found) in
      sim b.function f b.args at (fit ∙ ap (λ (x : Head). x.kinds) (sym is))

  -- led by the same answers, they still do the same
  led_follows : (answers : List Answer) (c c' : Configuration) (m m' : Machine) → Follows parts p c m → Comes p c answers c' → Led (code.next parts) (code.resume parts) (Fits (kinds parts)) m answers m' → Follows parts p c' m'
  led_follows [] c c' m m' f l r = subst (λ (x : Configuration). Follows parts p x m') (sym l) (subst (λ (y : Machine). Follows parts p c y) (sym r) f)
  led_follows (a ∷ answers) c c' m m' f (k, q, d, st, l) (k', q', e, st', fit, r) =
      let (d1, st1) = asks_back (tree.next p) tree.resume (code.next parts) (code.resume parts) (Fits (cell_kinds p)) c m (f []) k' q' e st' in
      let same = one_stand (tree.next p) c d d1 k k' q q' st st1 in
      let asked : q ≡ q' = one_request (tree.next p) c d d1 k k' q q' st st1 in
      let there : Stands (code.next parts) m k q e = subst (λ (z : Request). Stands (code.next parts) m k z e) (sym asked) (subst (λ (n : ℕ). Stands (code.next parts) m n q' e) (sym same.0) st') in
      let fits : Fits (cell_kinds p) q a = subst (λ (z : Request). Fits (cell_kinds p) z a) (sym asked) (subst (λ (ks : List Kind). Fits ks q' a) (kinds_same parts p layout) fit) in
      led_follows answers (tree.resume d a) c' (code.resume parts e a) m' (λ more. (f (a ∷ more)).1 k q d e st there fits) l r

  -- a ready task and a machine that have come along one trail
  both : (o : Origin) → o.project ≡ p → (x : Trail) (c : Configuration) (k : ℕ) (m : Machine) → ComesAlong o x Ready c → Along parts x k m → (start : Machine) × Follows parts p c start × Reaches (code.next parts) start k m
  both o same x c k m (b, is, lt, (c0, comes, at)) (start, (b', is', born, led), reaches) =
      let one : b' ≡ b = one_at b' b x.birth is' is in
      let comes' : Comes p (opening p b'.function b'.args) x.answers c0 =
      subst (λ (z : Birth). Comes p (opening p z.function z.args) x.answers c0) (sym one) (subst (λ (z : Project). Comes z (opening z b.function b.args) x.answers c0) same comes) in
      let f = led_follows x.answers (opening p b'.function b'.args) c0 (code.opening parts b'.function b'.args) start (started b' born) comes' led in
      (start, subst (λ (z : Configuration). Follows parts p z start) (sym at) f, reaches)

pub code_leads_tree : (o : Origin) (parts : RawParts) (h : List Entry) (w : World) → Simulates parts o.project → parts.layout ≡ layout_of o.project → Run o h w →
    (t : ℕ) (c : Configuration) (k : ℕ) (m : Machine) → standing_at w.common.shared.roster t ≡ Some Ready → at_task w.configurations t ≡ Some c → Along parts (trail o t h) k m → DoesTheSame o parts c k m
code_leads_tree o parts h w sim layout run t c k m ready at along =
    let (start, f, reaches) = both parts o.project sim layout o refl (trail o t h) c k m ((follows_run o h w run).each t Ready c ready at) along in
    record {
      requests = λ q asked. asks_back (tree.next o.project) tree.resume (code.next parts) (code.resume parts) (Fits (cell_kinds o.project)) c start (f []) k q m (reaches, asked);
      ticks = λ tick. ticks_back (tree.next o.project) tree.resume (code.next parts) (code.resume parts) (Fits (cell_kinds o.project)) c start (f []) k (m, reaches, tick);
    }
