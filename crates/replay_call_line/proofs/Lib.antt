pub mod CallLine
