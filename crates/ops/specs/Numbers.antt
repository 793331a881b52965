-- The numbers of registers, fields and enumerated values. Names are the Rust's, with _ for the dot.
-- Assumes nothing.
use Rattle.std.specs.Prelude.{ℕ}
use Rattle.ops.specs.declared.numbers.Kind.{Kind}
use Rattle.ops.specs.declared.numbers.Kind.TheVariants as kind
use Rattle.ops.specs.declared.numbers.Register.{Register}
use Rattle.ops.specs.declared.numbers.Register.TheVariants as register
use Rattle.ops.specs.declared.numbers.Field.{Field}
use Rattle.ops.specs.declared.numbers.Field.TheVariants as field
use Rattle.ops.specs.declared.numbers.Value.{Value}
use Rattle.ops.specs.declared.numbers.Value.TheVariants as value

-- the numbers that stand in a record
abbrev pub kind_number : Kind → ℕ
kind_number kind.Write = 1
kind_number kind.And = 2
kind_number kind.Modify = 3
kind_number kind.ModifyIfDiffers = 4
kind_number kind.Wait = 5
kind_number kind.ClearBits = 6

abbrev pub register_number : Register → ℕ
register_number register.LinkCfg = 1
register_number register.LinkCtrl = 2
register_number register.LinkIntCtrl = 3
register_number register.LinkIntFlag = 4
register_number register.LinkLpmCr = 5
register_number register.LinkU1WkupTmr = 6
register_number register.LinkU1WkupFilter = 7
register_number register.LinkU2WkupFilter = 8
register_number register.LinkU3WkupFilter = 9
register_number register.LinkU2InactTimer = 10
register_number register.LinkLmpTxData = 11
register_number register.LinkLmpPortCap = 12
register_number register.PhyCfgCr = 13
register_number register.PhyCfgDat = 14
register_number register.Unnamed5003C018 = 15
register_number register.UsbssCtrl = 16
register_number register.Status = 17
register_number register.UepTxEn = 18
register_number register.UepRxEn = 19
register_number register.Uep0TxDma = 20
register_number register.Uep0RxDma = 21
register_number register.Uep0TxDmaOfs = 22
register_number register.Uep0RxDmaOfs = 23
register_number register.Uep0TxCtrl = 24
register_number register.Uep0RxCtrl = 25
register_number register.TxCfg = 26
register_number register.TxCr = 27
register_number register.TxSt = 28
register_number register.TxChainSt = 29
register_number register.TxDma = 30
register_number register.TxDmaOfs = 31
register_number register.TxChainLen = 32
register_number register.TxChainExpNump = 33
register_number register.RxCfg = 34
register_number register.RxCr = 35
register_number register.RxSt = 36
register_number register.RxChainSt = 37
register_number register.RxDma = 38
register_number register.RxDmaOfs = 39
register_number register.RxChainMaxNump = 40
register_number register.Delay = 41

abbrev pub field_number : Field → ℕ
field_number field.All = 1
field_number field.LinkRxEqEn = 2
field_number field.LinkTxDeemph = 3
field_number field.LinkPhyReset = 4
field_number field.LinkLtssmMode = 5
field_number field.LinkToutMode = 6
field_number field.LinkRxTermEn = 7
field_number field.LinkReset = 8
field_number field.LinkU1Allow = 9
field_number field.LinkU2Allow = 10
field_number field.LinkPdMode = 11
field_number field.LinkGoDisabled = 12
field_number field.LinkGoRxDet = 13
field_number field.LinkTxUxExit = 14
field_number field.LinkTxTsCfg = 15
field_number field.LinkIeTxLmp = 16
field_number field.LinkIeRxLmp = 17
field_number field.LinkIeRxLmpTout = 18
field_number field.LinkIeStateChg = 19
field_number field.LinkIeWarmRst = 20
field_number field.LinkIeTermPres = 21
field_number field.LinkIeRxSetFc = 22
field_number field.LinkIfTxLmp = 23
field_number field.LinkIfRxLmp = 24
field_number field.LinkIfRxLmpTout = 25
field_number field.LinkIfStateChg = 26
field_number field.LinkIfWarmRst = 27
field_number field.LinkIfTermPres = 28
field_number field.LinkIfRxSetFc = 29
field_number field.LpmEn = 30
field_number field.U1WkupTmr = 31
field_number field.U1WkupFilter = 32
field_number field.U2WkupFilter = 33
field_number field.U3WkupFilter = 34
field_number field.U2InactiveTimer = 35
field_number field.LinkLmpTxCapVld = 36
field_number field.PhyCfgData = 37
field_number field.PhyCfgAddr = 38
field_number field.PhyCfgWrite = 39
field_number field.ForceRst = 40
field_number field.UieTransfer = 41
field_number field.UdieSetup = 42
field_number field.UdieStatus = 43
field_number field.DmaEn = 44
field_number field.SetupFlow = 45
field_number field.UsbClrAll = 46
field_number field.DevAddr = 47
field_number field.UifTransfer = 48
field_number field.UdifSetup = 49
field_number field.UdifStatus = 50
field_number field.UifRxPing = 51
field_number field.UifItp = 52
field_number field.UifFifoTxov = 53
field_number field.UifFifoRxov = 54
field_number field.EpTxEn = 55
field_number field.EpRxEn = 56
field_number field.Ep0TxRes = 57
field_number field.Ep0TxSeq = 58
field_number field.Ep0TxLen = 59
field_number field.Ep0TxErdy = 60
field_number field.Ep0RxRes = 61
field_number field.Ep0RxErdy = 62
field_number field.ChainAuto = 63
field_number field.ErdyAuto = 64
field_number field.SeqAuto = 65
field_number field.IsoMode = 66
field_number field.Clr = 67
field_number field.ChainClr = 68
field_number field.Halt = 69
field_number field.IntFlag = 70
field_number field.ErdyReq = 71
field_number field.ChainIf = 72
field_number field.Len = 73
field_number field.ErdyNump = 74
field_number field.Cycles = 75

abbrev pub value_number : Value → ℕ
value_number value.Ack = 1
value_number value.Dph = 2
value_number value.Nrdy = 3
value_number value.Stall = 4
value_number value.P2 = 5
value_number value.Db3_5 = 6

-- registers
abbrev pub link_cfg : Register
link_cfg = register.LinkCfg

abbrev pub link_ctrl : Register
link_ctrl = register.LinkCtrl

abbrev pub link_int_ctrl : Register
link_int_ctrl = register.LinkIntCtrl

abbrev pub link_int_flag : Register
link_int_flag = register.LinkIntFlag

abbrev pub link_lpm_cr : Register
link_lpm_cr = register.LinkLpmCr

abbrev pub link_u1_wkup_tmr : Register
link_u1_wkup_tmr = register.LinkU1WkupTmr

abbrev pub link_u1_wkup_filter : Register
link_u1_wkup_filter = register.LinkU1WkupFilter

abbrev pub link_u2_wkup_filter : Register
link_u2_wkup_filter = register.LinkU2WkupFilter

abbrev pub link_u3_wkup_filter : Register
link_u3_wkup_filter = register.LinkU3WkupFilter

abbrev pub link_u2_inact_timer : Register
link_u2_inact_timer = register.LinkU2InactTimer

abbrev pub link_lmp_tx_data : Register
link_lmp_tx_data = register.LinkLmpTxData

abbrev pub link_lmp_port_cap : Register
link_lmp_port_cap = register.LinkLmpPortCap

abbrev pub phy_cfg_cr : Register
phy_cfg_cr = register.PhyCfgCr

abbrev pub phy_cfg_dat : Register
phy_cfg_dat = register.PhyCfgDat

abbrev pub unnamed_5003c018 : Register
unnamed_5003c018 = register.Unnamed5003C018

abbrev pub usbss_ctrl : Register
usbss_ctrl = register.UsbssCtrl

abbrev pub status : Register
status = register.Status

abbrev pub uep_tx_en : Register
uep_tx_en = register.UepTxEn

abbrev pub uep_rx_en : Register
uep_rx_en = register.UepRxEn

abbrev pub uep0_tx_dma : Register
uep0_tx_dma = register.Uep0TxDma

abbrev pub uep0_rx_dma : Register
uep0_rx_dma = register.Uep0RxDma

abbrev pub uep0_tx_dma_ofs : Register
uep0_tx_dma_ofs = register.Uep0TxDmaOfs

abbrev pub uep0_rx_dma_ofs : Register
uep0_rx_dma_ofs = register.Uep0RxDmaOfs

abbrev pub uep0_tx_ctrl : Register
uep0_tx_ctrl = register.Uep0TxCtrl

abbrev pub uep0_rx_ctrl : Register
uep0_rx_ctrl = register.Uep0RxCtrl

abbrev pub tx_cfg : Register
tx_cfg = register.TxCfg

abbrev pub tx_cr : Register
tx_cr = register.TxCr

abbrev pub tx_st : Register
tx_st = register.TxSt

abbrev pub tx_chain_st : Register
tx_chain_st = register.TxChainSt

abbrev pub tx_dma : Register
tx_dma = register.TxDma

abbrev pub tx_dma_ofs : Register
tx_dma_ofs = register.TxDmaOfs

abbrev pub tx_chain_len : Register
tx_chain_len = register.TxChainLen

abbrev pub tx_chain_exp_nump : Register
tx_chain_exp_nump = register.TxChainExpNump

abbrev pub rx_cfg : Register
rx_cfg = register.RxCfg

abbrev pub rx_cr : Register
rx_cr = register.RxCr

abbrev pub rx_st : Register
rx_st = register.RxSt

abbrev pub rx_chain_st : Register
rx_chain_st = register.RxChainSt

abbrev pub rx_dma : Register
rx_dma = register.RxDma

abbrev pub rx_dma_ofs : Register
rx_dma_ofs = register.RxDmaOfs

abbrev pub rx_chain_max_nump : Register
rx_chain_max_nump = register.RxChainMaxNump

abbrev pub delay : Register
delay = register.Delay

-- fields
abbrev pub all : Field
all = field.All

abbrev pub link_rx_eq_en : Field
link_rx_eq_en = field.LinkRxEqEn

abbrev pub link_tx_deemph : Field
link_tx_deemph = field.LinkTxDeemph

abbrev pub link_phy_reset : Field
link_phy_reset = field.LinkPhyReset

abbrev pub link_ltssm_mode : Field
link_ltssm_mode = field.LinkLtssmMode

abbrev pub link_tout_mode : Field
link_tout_mode = field.LinkToutMode

abbrev pub link_rx_term_en : Field
link_rx_term_en = field.LinkRxTermEn

abbrev pub link_reset : Field
link_reset = field.LinkReset

abbrev pub link_u1_allow : Field
link_u1_allow = field.LinkU1Allow

abbrev pub link_u2_allow : Field
link_u2_allow = field.LinkU2Allow

abbrev pub link_pd_mode : Field
link_pd_mode = field.LinkPdMode

abbrev pub link_go_disabled : Field
link_go_disabled = field.LinkGoDisabled

abbrev pub link_go_rx_det : Field
link_go_rx_det = field.LinkGoRxDet

abbrev pub link_tx_ux_exit : Field
link_tx_ux_exit = field.LinkTxUxExit

abbrev pub link_tx_ts_cfg : Field
link_tx_ts_cfg = field.LinkTxTsCfg

abbrev pub link_ie_tx_lmp : Field
link_ie_tx_lmp = field.LinkIeTxLmp

abbrev pub link_ie_rx_lmp : Field
link_ie_rx_lmp = field.LinkIeRxLmp

abbrev pub link_ie_rx_lmp_tout : Field
link_ie_rx_lmp_tout = field.LinkIeRxLmpTout

abbrev pub link_ie_state_chg : Field
link_ie_state_chg = field.LinkIeStateChg

abbrev pub link_ie_warm_rst : Field
link_ie_warm_rst = field.LinkIeWarmRst

abbrev pub link_ie_term_pres : Field
link_ie_term_pres = field.LinkIeTermPres

abbrev pub link_ie_rx_set_fc : Field
link_ie_rx_set_fc = field.LinkIeRxSetFc

abbrev pub link_if_tx_lmp : Field
link_if_tx_lmp = field.LinkIfTxLmp

abbrev pub link_if_rx_lmp : Field
link_if_rx_lmp = field.LinkIfRxLmp

abbrev pub link_if_rx_lmp_tout : Field
link_if_rx_lmp_tout = field.LinkIfRxLmpTout

abbrev pub link_if_state_chg : Field
link_if_state_chg = field.LinkIfStateChg

abbrev pub link_if_warm_rst : Field
link_if_warm_rst = field.LinkIfWarmRst

abbrev pub link_if_term_pres : Field
link_if_term_pres = field.LinkIfTermPres

abbrev pub link_if_rx_set_fc : Field
link_if_rx_set_fc = field.LinkIfRxSetFc

abbrev pub lpm_en : Field
lpm_en = field.LpmEn

abbrev pub u1_wkup_tmr : Field
u1_wkup_tmr = field.U1WkupTmr

abbrev pub u1_wkup_filter : Field
u1_wkup_filter = field.U1WkupFilter

abbrev pub u2_wkup_filter : Field
u2_wkup_filter = field.U2WkupFilter

abbrev pub u3_wkup_filter : Field
u3_wkup_filter = field.U3WkupFilter

abbrev pub u2_inactive_timer : Field
u2_inactive_timer = field.U2InactiveTimer

abbrev pub link_lmp_tx_cap_vld : Field
link_lmp_tx_cap_vld = field.LinkLmpTxCapVld

abbrev pub phy_cfg_data : Field
phy_cfg_data = field.PhyCfgData

abbrev pub phy_cfg_addr : Field
phy_cfg_addr = field.PhyCfgAddr

abbrev pub phy_cfg_write : Field
phy_cfg_write = field.PhyCfgWrite

abbrev pub force_rst : Field
force_rst = field.ForceRst

abbrev pub uie_transfer : Field
uie_transfer = field.UieTransfer

abbrev pub udie_setup : Field
udie_setup = field.UdieSetup

abbrev pub udie_status : Field
udie_status = field.UdieStatus

abbrev pub dma_en : Field
dma_en = field.DmaEn

abbrev pub setup_flow : Field
setup_flow = field.SetupFlow

abbrev pub usb_clr_all : Field
usb_clr_all = field.UsbClrAll

abbrev pub dev_addr : Field
dev_addr = field.DevAddr

abbrev pub uif_transfer : Field
uif_transfer = field.UifTransfer

abbrev pub udif_setup : Field
udif_setup = field.UdifSetup

abbrev pub udif_status : Field
udif_status = field.UdifStatus

abbrev pub uif_rx_ping : Field
uif_rx_ping = field.UifRxPing

abbrev pub uif_itp : Field
uif_itp = field.UifItp

abbrev pub uif_fifo_txov : Field
uif_fifo_txov = field.UifFifoTxov

abbrev pub uif_fifo_rxov : Field
uif_fifo_rxov = field.UifFifoRxov

abbrev pub ep_tx_en : Field
ep_tx_en = field.EpTxEn

abbrev pub ep_rx_en : Field
ep_rx_en = field.EpRxEn

abbrev pub ep0_tx_res : Field
ep0_tx_res = field.Ep0TxRes

abbrev pub ep0_tx_seq : Field
ep0_tx_seq = field.Ep0TxSeq

abbrev pub ep0_tx_len : Field
ep0_tx_len = field.Ep0TxLen

abbrev pub ep0_tx_erdy : Field
ep0_tx_erdy = field.Ep0TxErdy

abbrev pub ep0_rx_res : Field
ep0_rx_res = field.Ep0RxRes

abbrev pub ep0_rx_erdy : Field
ep0_rx_erdy = field.Ep0RxErdy

abbrev pub chain_auto : Field
chain_auto = field.ChainAuto

abbrev pub erdy_auto : Field
erdy_auto = field.ErdyAuto

abbrev pub seq_auto : Field
seq_auto = field.SeqAuto

abbrev pub iso_mode : Field
iso_mode = field.IsoMode

abbrev pub clr : Field
clr = field.Clr

abbrev pub chain_clr : Field
chain_clr = field.ChainClr

abbrev pub halt : Field
halt = field.Halt

abbrev pub int_flag : Field
int_flag = field.IntFlag

abbrev pub erdy_req : Field
erdy_req = field.ErdyReq

abbrev pub chain_if : Field
chain_if = field.ChainIf

abbrev pub len : Field
len = field.Len

abbrev pub erdy_nump : Field
erdy_nump = field.ErdyNump

abbrev pub cycles : Field
cycles = field.Cycles

-- enumerated values
abbrev pub ack : ℕ
ack = value_number value.Ack

abbrev pub dph : ℕ
dph = value_number value.Dph

abbrev pub nrdy : ℕ
nrdy = value_number value.Nrdy

abbrev pub stall : ℕ
stall = value_number value.Stall

abbrev pub p2 : ℕ
p2 = value_number value.P2

abbrev pub db3_5 : ℕ
db3_5 = value_number value.Db3_5
