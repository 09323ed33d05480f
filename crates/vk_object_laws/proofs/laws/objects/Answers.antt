use Rattle.vk_object_laws.proofs.FitTables.{object_read, object_same, object_tables}
use Rattle.vk_object_laws.proofs.laws.objects.Goals as goal

pub returns : goal.returns
returns c = record { tables = object_tables; same = object_same; read = object_read }
