use Rattle.std.proofs.Common.{◌⊎◌, ℕ, ◌+◌, [], ◌∷◌, ◌++◌, ap, subst, ◌∙◌}
use Rattle.std.specs.Option.{option_map}
use Rattle.pcfs_ports.specs.Disk.{written, Torn}
use Rattle.journal_core.specs.Area.{Begins, Closed, record_bytes}
use Rattle.journal_core.specs.Rest.{IsWithOrWithout}
use Rattle.journal_core.proofs.RestsLemmas.{weaker_leaves, told_leaves}
use Rattle.journal_core.proofs.AreaLemmas.{append_says, append_keeps, append_writes, told_same, closed_written}
use Rattle.journal_core.proofs.area.Area.append.Goals as goal

pub returns-in_err-write_then_open-clause-any_moment : goal.returns-in_err-write_then_open-clause-any_moment
returns-in_err-write_then_open-clause-any_moment g c = rw (← c.self.view_is) (λ body counted rest.
    let end = c.self.inside.end in
    let frame = c.bytes-frame.result.now in
    weaker_leaves g.D.Disk.clock g.D.Disk.left_since c.self.inside.disk c.write_then_open.new.disk
    (λ left. Torn (end + 1) frame rest.bytes left ⊎ Torn end (1 ∷ []) (written (end + 1) frame rest.bytes) left)
    (IsWithOrWithout body c.args.framed.now)
    (λ left torn. append_says body rest.bytes c.args.framed.now frame left end counted c.bytes-frame.ensures rest.closed torn)
    (c.write_then_open.ensures.any_moment rest.bytes rest.told rest.pinned))

pub returns-in_err-write_then_open-clause-front : goal.returns-in_err-write_then_open-clause-front
returns-in_err-write_then_open-clause-front g c = rw (← c.self.view_is) (λ body bytes counted told begins pinned.
    let end = c.self.inside.end in
    let frame = c.bytes-frame.result.now in
    weaker_leaves g.D.Disk.clock g.D.Disk.left_since c.self.inside.disk c.write_then_open.new.disk
    (λ left. Torn (end + 1) frame bytes left ⊎ Torn end (1 ∷ []) (written (end + 1) frame bytes) left)
    (Begins body)
    (λ left torn. append_keeps body bytes frame left end counted begins torn)
    (c.write_then_open.ensures.any_moment bytes told pinned))

pub returns-in_err-write_then_open-clause-found : goal.returns-in_err-write_then_open-clause-found
returns-in_err-write_then_open-clause-found g c = rw (← c.self.view_is) (λ failed body bytes counted rest told.
    let end = c.self.inside.end in
    let frame = c.bytes-frame.result.now in
    told_leaves g.D.Disk.clock g.D.Disk.left_since g.D.Disk.image c.self.inside.disk c.write_then_open.new.disk (IsWithOrWithout body c.args.framed.now)
    (λ disk t u b le left. g.met.D.Disk.since_earlier disk t u b le left) (λ disk b is. g.met.D.Disk.image_may_stay disk b is)
    (weaker_leaves g.D.Disk.clock g.D.Disk.left_since c.self.inside.disk c.write_then_open.new.disk
    (λ left. Torn (end + 1) frame rest.bytes left ⊎ Torn end (1 ∷ []) (written (end + 1) frame rest.bytes) left)
    (IsWithOrWithout body c.args.framed.now)
    (λ left torn. append_says body rest.bytes c.args.framed.now frame left end counted c.bytes-frame.ensures rest.closed torn)
    (c.write_then_open.ensures.any_moment rest.bytes rest.told rest.pinned)) bytes told)

pub returns-clause-any_moment : goal.returns-clause-any_moment
returns-clause-any_moment g c = rw (← c.self.view_is) (λ body counted rest.
    let end = c.self.inside.end in
    let frame = c.bytes-frame.result.now in
    weaker_leaves g.D.Disk.clock g.D.Disk.left_since c.self.inside.disk c.write_then_open.new.disk
    (λ left. Torn (end + 1) frame rest.bytes left ⊎ Torn end (1 ∷ []) (written (end + 1) frame rest.bytes) left)
    (IsWithOrWithout body c.args.framed.now)
    (λ left torn. append_says body rest.bytes c.args.framed.now frame left end counted c.bytes-frame.ensures rest.closed torn)
    (c.write_then_open.ensures.any_moment rest.bytes rest.told rest.pinned))

pub returns-clause-front : goal.returns-clause-front
returns-clause-front g c = rw (← c.self.view_is) (λ body bytes counted told begins pinned.
    let end = c.self.inside.end in
    let frame = c.bytes-frame.result.now in
    weaker_leaves g.D.Disk.clock g.D.Disk.left_since c.self.inside.disk c.write_then_open.new.disk
    (λ left. Torn (end + 1) frame bytes left ⊎ Torn end (1 ∷ []) (written (end + 1) frame bytes) left)
    (Begins body)
    (λ left torn. append_keeps body bytes frame left end counted begins torn)
    (c.write_then_open.ensures.any_moment bytes told pinned))

pub returns-clause-image : goal.returns-clause-image
returns-clause-image g c = rw (← c.self.view_is) (
    let end = c.self.inside.end in
    let frame = c.bytes-frame.result.now in
    c.in_ok-write_then_open.ensures.image
    ∙ told_same (λ bytes. written end (1 ∷ []) (written (end + 1) frame bytes)) (written end (record_bytes c.args.framed.now ++ 0 ∷ []))
    (g.D.Disk.image c.self.inside.disk) (λ bytes. append_writes end frame c.args.framed.now bytes c.bytes-frame.ensures))

pub returns-clause-rests : goal.returns-clause-rests
returns-clause-rests g c = rw (← c.self.view_is) (λ body bytes counted told stands.
    let end = c.self.inside.end in
    let frame = c.bytes-frame.result.now in
    let record_and_gate = record_bytes c.args.framed.now ++ 0 ∷ [] in
    record {
      bytes = written end record_and_gate bytes;
      told = c.in_ok-write_then_open.ensures.image
          ∙ told_same (λ b. written end (1 ∷ []) (written (end + 1) frame b)) (written end record_and_gate)
          (g.D.Disk.image c.self.inside.disk) (λ b. append_writes end frame c.args.framed.now b c.bytes-frame.ensures)
          ∙ ap (option_map (written end record_and_gate)) told;
      closed = subst (λ (n : ℕ). Closed (body ++ record_bytes c.args.framed.now) (written n record_and_gate bytes)) counted
          (closed_written body (record_bytes c.args.framed.now) bytes stands.front);
      pinned = c.in_ok-write_then_open.ensures.pinned;
    })
