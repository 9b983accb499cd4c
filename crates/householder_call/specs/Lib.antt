-- What the public QR promises. Definitions only.
pub mod Promise
pub mod Claims
