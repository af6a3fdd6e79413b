use Rattle.std.proofs.Common.{◌≡◌, ℕ, min, length, take, ap, ◌∙◌, arith}
use Rattle.std.proofs.lemmas.List.{take_at, take_min}
use Rattle.pcfs_ports.specs.Disk.{ReadsAt}
use Rattle.journal_core.specs.Area.{area_limit}
use Rattle.journal_core.proofs.RestsLemmas.{if_told, at_told}
use Rattle.journal_core.proofs.scan.read_area.Goals as goal

pub returns-clause-ok : goal.returns-clause-ok
returns-clause-ok g c =
    let buffer = c.read.new.buf in
    let count = c.in_ok-count.count in
    if_told (g.D.Disk.image c.args.disk.now) (λ image. c.from_vec.result ≡ take area_limit image)
    (λ image told.
    let read : ReadsAt 0 image count buffer =
    at_told (g.D.Disk.image c.find_length.new.disk) (λ bytes. ReadsAt 0 bytes count buffer) image (c.in_ok-len.ensures.same ∙ told) c.in_ok-count.ensures.ok in
    let long : c.in_ok-len.len ≡ min area_limit (length image) =
    at_told (g.D.Disk.image c.args.disk.now) (λ bytes. c.in_ok-len.len ≡ min area_limit (length bytes)) image told c.in_ok-len.ensures.ok in
    let len : length buffer ≡ c.in_ok-bytes.bytes.len = omega (arith, c.in_ok-bytes.bytes.ok.0) in
    let all : count ≡ min area_limit (length image) = omega (arith, read.whole, long, len, c.in_ok-bytes.ensures.len, c.in_ok-bytes.bytes.ok.0) in
    c.from_vec.ensures ∙ c.truncate.ensures.items ∙ ap (take count) (take_at buffer _ c.in_ok-bytes.bytes.len len) ∙ read.bytes
    ∙ ap (λ (n : ℕ). take n image) all ∙ take_min area_limit image)
