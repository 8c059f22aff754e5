use Rattle.nc_print.proofs.Begins.{begins_in_a_row}
use Rattle.nc_print.proofs.Writing.{written_in_a_row, written_last}
use Rattle.std.proofs.Common.{codes, refl}
use Rattle.nc_print.proofs.certificate.append_proof.Goals as goal

pub returns-clause-text : goal.returns-clause-text
returns-clause-text c =
    written_last c.extend_from_slice-2.result _ c.append_lines.new.out.items (codes "end\n") _
    c.extend_from_slice-2.ensures.items
    (written_in_a_row c.args.setting.now c.args.claim.now c.args.lines.now _ _ _ _ _ _ _ _ refl
    c.names-names.ensures.names c.lines.ensures.lines c.in_ok-extend_from_slice.ensures.items
    c.in_ok-append_setting.ensures.text c.in_ok-append_poly_line.ensures.text
    c.in_ok-append_lines.ensures.text)

pub returns-clause-kept : goal.returns-clause-kept
returns-clause-kept c =
    begins_in_a_row _ _ _ _ _ _ _ _ _ c.in_ok-extend_from_slice.ensures.items
    c.append_setting.ensures.kept c.append_poly_line.ensures.kept c.append_lines.ensures.kept
    c.extend_from_slice-2.ensures.items
