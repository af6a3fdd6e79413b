-- A piece is the front of the bytes that are left.
use Rattle.std.proofs.Common.{◌≡◌, ◌++◌, ℕ, List, ap, ◌∙◌}
use Rattle.std.proofs.lemmas.List.{take-append-drop}
use Rattle.hex.specs.Hex.{encode_lower}
use Rattle.line_wire.proofs.HexTextLemmas.{piece_more, begins_more}
use Rattle.line_wire.proofs.hex_text.put_digits.Goals as goal

pub pieces-preserved : goal.pieces-preserved
pieces-preserved c =
    let piece = c.split_at.result.0.now in
    let others = c.split_at.result.1.now in
    let whole : piece ++ others ≡ c.pieces.rest.now = rw (c.split_at.ensures.front, c.split_at.ensures.back) (take-append-drop 256 c.pieces.rest.now) in
    record {
      so_far = piece_more c.args.out.now c.pieces.out c.args.bytes.now piece others c.put_piece.new.out c.in_ok-put_piece.ensures.ok (ap (λ (l : List ℕ). c.pieces.out ++ encode_lower l) whole ∙ c.pieces.invariant.so_far);
      begins = begins_more c.args.out.now c.pieces.out (encode_lower piece) c.put_piece.new.out c.in_ok-put_piece.ensures.ok c.pieces.invariant.begins;
    }
