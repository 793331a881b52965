pub mod FieldNames
