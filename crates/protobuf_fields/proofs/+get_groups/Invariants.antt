use Rattle.protobuf_fields.proofs.+get_groups.Given as goal

abbrev pub decreases-get_groups : goal.decreases-get_groups
decreases-get_groups l = l.k
